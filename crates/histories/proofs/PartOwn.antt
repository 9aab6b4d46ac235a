-- A part never shows a byte of another file: a walk goes by entries and headings alone, and the part is cut out of the one text at its end.
-- So two sound tables that differ in the text of another file give one answer and one reply.
use mathlib.Core.Bool.{true}
use mathlib.Core.List.{List}
use mathlib.Core.Logic.{◌≢◌}
use mathlib.Core.Path.{◌≡◌, refl, ◌∙◌}
use Prim.Native.Nat.{ℕ}
use native.Mathlib.Omega.{arith}
use Rattle.paper.specs.Layout.{boxed}
use Rattle.paper.specs.Table.{sized}
use Rattle.paper.specs.Declaration.{Part}
use Rattle.paper.specs.Line.{Word}
use Rattle.paper.specs.Request.{Begin, rds, request, asked}
use Rattle.paper.specs.Sound.{sound}
use Rattle.paper.specs.Walk.{State, start, file, Walked, reached, stopped, to_directory, to_last, last_from, end_from, arrived, ended, last_name}
use Rattle.paper.specs.Block.{file_text}
use Rattle.paper.specs.Effect.{chain_of, list_of, begun, part}
use Rattle.paper.specs.Answer.{requested}
use Rattle.laws.proofs.Tests.{clash}
use Rattle.demands.proofs.Sound.Clauses.{Sound, sound-clauses}
use Rattle.demands.proofs.Request.Walked.{Reached, walk-reached}
use Rattle.demands.proofs.Parts.{Readable, Granted, bringing, part-read, part-shown}
use Rattle.histories.proofs.SealStays.Veils.{Veil, byte-veil, named-veil, simple-veil}
use Rattle.histories.proofs.SealStays.Walks.{to-directory-veil, to-last-veil, file-text-veil}

module _ (h : ℕ) (t s : List ℕ) (v : Veil h t s) where
  -- a walk ends alike on both
  ended-veil : (d : State) (ns : List (List ℕ)) → ended boxed s d ns ≡ ended boxed t d ns
  unfolding ended
  ended-veil d ns = rw (to-directory-veil h t s v 1 d ns) (go (to_directory boxed t 1 d ns))
    where
      go : (x : Walked) → end_from boxed s ns x ≡ end_from boxed t ns x
      go (reached e) = rw (to-last-veil h t s v e ns)
      go (stopped n link) = refl

  -- the file at the end of a walk is a heading
  ended-reached : Sound t → (d : State) (ns : List (List ℕ)) (e f : State) → ended boxed t d ns ≡ arrived e f → Reached t e (last_name ns) f
  unfolding ended
  ended-reached c d ns e f q = go (to_directory boxed t 1 d ns) q
    where
      last : (x : State) (y : Walked) → to_last boxed t x ns ≡ y → last_from x y ≡ arrived e f → Reached t e (last_name ns) f
      last x (reached z) p r =
          let a : x ≡ e = cc in
          let b : z ≡ f = cc in
          walk-reached 65535 t c e ns f (rw (← a, ← b) p)
      last x (stopped n link) p r = clash (cc)

      go : (x : Walked) → end_from boxed t ns x ≡ arrived e f → Reached t e (last_name ns) f
      go (reached x) r = last x (to_last boxed t x ns) refl r
      go (stopped n link) r = clash (cc)

  readable-veil : (u : ℕ) (name : Word) → Readable t u name → Readable s u name
  readable-veil u name r =
      record {
        directory = r.directory;
        end = r.end;
        walk = ended-veil (start u) (chain_of name) ∙ r.walk;
        reads = r.reads;
        simple = rw (named-veil h t s v r.end.entry, simple-veil h t s v (file t r.end)) r.simple;
        unmarked = rw (named-veil h t s v r.end.entry, byte-veil h t s v (file t r.end) 5 (omega arith)) r.unmarked;
      }

-- whatever part is asked for, of a file other than h: the text of h is not in it, byte for byte
pub part-own : (t s line text reply : List ℕ) (u k h : ℕ) (from : Begin) (name : Word) (first count : Part) → Veil h t s
    → sized s ≡ true → sound boxed s ≡ true → asked line text ≡ request (rds from name first count)
    → (requested boxed t line text reply u k).answer.number ≡ 0
    → ((d f : State) → ended boxed t (start (list_of u from)) (chain_of (begun from name)) ≡ arrived d f → file t f ≢ h)
    → ((requested boxed s line text reply u k).answer ≡ (requested boxed t line text reply u k).answer)
    × ((requested boxed s line text reply u k).reply ≡ (requested boxed t line text reply u k).reply)
unfolding readable-veil
part-own t s line text reply u k h from name first count v z w q n other =
    let p = part-shown t line text reply u k from name first count q n in
    let g : Granted t u from name = p.0 in
    let r : Readable t (list_of u from) (begun from name) = g.readable in
    let c : Sound t = sound-clauses t g.sized g.sound in
    let b = ended-reached h t s v c (start (list_of u from)) (chain_of (begun from name)) r.directory r.end r.walk in
    let e : file_text s (file s r.end) ≡ file_text t (file t r.end) =
    rw (named-veil h t s v r.end.entry) (file-text-veil h t s v c.whole (file t r.end) (other r.directory r.end r.walk) b.heading) in
    let o : Granted s u from name =
    record { sized = z; sound = w; user = g.user; readable = readable-veil h t s v (list_of u from) (begun from name) r } in
    let a : requested boxed s line text reply u k ≡ bringing s (part (file_text t (file t r.end)) first count) reply =
    part-read s line text reply u k from name first count q o (rw e p.1) ∙ rw e in
    (rw (a, p.2), rw (a, p.2))
