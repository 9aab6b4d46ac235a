-- A granted `WRS*`: its stores are counted, each cut of it mends as demand 3 says and it is said when, and whoever could read the file reads
-- the new text. It is one plan, whose stores are those of a rewrite; paths stay, and the new text is found by position, block by block.
-- paths stay
pub mod Paths
use mathlib.Core.Bool.{true, false}
use mathlib.Core.List.{List}
use mathlib.Core.Logic.{inl, by_cases}
use mathlib.Core.Path.{◌≡◌, refl, sym, ap, ◌∙◌}
use Prim.Native.Nat.{ℕ, ◌+◌, ◌≤◌, ◌<◌}
use native.Mathlib.Omega.{arith}
use native.Mathlib.Decide.{dec_le}
use lib.ListN.{length, take}
use lib.Seq.{take_all}
use Rattle.paper.specs.Record.{byte, heading_code, held, rewritten}
use Rattle.paper.specs.Layout.{boxed}
use Rattle.paper.specs.Table.{sized, rec, room, text_room}
use Rattle.paper.specs.Declaration.{Part}
use Rattle.paper.specs.Line.{Word}
use Rattle.paper.specs.Request.{Begin, rds, rewrite, request, asked}
use Rattle.paper.specs.Code.{no_read}
use Rattle.paper.specs.Block.{blocks, block, blocks_of, file_text}
use Rattle.paper.specs.Sound.{counts_true, sound}
use Rattle.paper.specs.Walk.{State, start, file, reached, to_directory, to_last, arrived, ended}
use Rattle.paper.specs.Store.{Store, run}
use Rattle.paper.specs.Effect.{Plan, Planned, chain_of, list_of, begun, emptied, rewriting, part, rewrite_plan}
use Rattle.paper.specs.Mend.{mended}
use Rattle.paper.specs.Answer.{ran, single, granted, requested}
use Rattle.laws.proofs.Lists.{join-cong}
use Rattle.laws.proofs.Fields.{text-held}
use Rattle.laws.proofs.Rewritten.{rewritten-byte, rewritten-mark}
use Rattle.laws.proofs.Entries.{typed-by, text-by}
use Rattle.laws.proofs.Runs.{rooms-run}
use Rattle.laws.proofs.Blocks.{join-blocks}
use Rattle.demands.proofs.Sound.Clauses.{Sound}
use Rattle.demands.proofs.Sound.Right.{Right, sound-right, right-sound}
use Rattle.demands.proofs.Request.Fair.{fair-some}
use Rattle.demands.proofs.Request.Read.{Told}
use Rattle.demands.proofs.Request.Chains.{names_at}
use Rattle.demands.proofs.Request.Course.{Course, untried, tried, course, same-request}
use Rattle.demands.proofs.Request.Ended.{Passed, ran-by, passes, cuts}
use Rattle.demands.proofs.Answered.Numbered.{fair-refused, fair-rewrite_plan}
use Rattle.demands.proofs.SoundKept.Freed.{room-only}
use Rattle.demands.proofs.SoundKept.Emptied.{size-h, head-type, emptied-heading, emptied-retexted, emptied-sound}
use Rattle.demands.proofs.SoundKept.Refilled.{Rewrite, room_in, text-laid, heading-there, last-kind, last-length, text_at_lem, once-there, refilled, refilled-sound}
use Rattle.demands.proofs.SoundKept.Told.{refilled-true}
use Rattle.demands.proofs.SoundKept.Rewriting.{length-rewriting, rewrite-granted}
use Rattle.demands.proofs.Parts.{Holds, bringing, Granted, granted_text, part-read}
use Rattle.demands.proofs.Rewrites.Paths.{arrived-entry, entry-stays, ended_same}
use Rattle.demands.proofs.PowerCut.Remade.{cut-first, cut-half, cut-last, emptied-again}

-- what a `WRS*` that is granted at stop number j has done to t, and does at every other stop number
pub record Rewrote (t line text reply : List ℕ) (u j : ℕ) (name : Word) : Type 0 where
  pub directory : State
  pub end : State
  pub walked : to_directory boxed t 1 (start u) (chain_of name) ≡ reached directory
  pub last : to_last boxed t directory (chain_of name) ≡ reached end
  pub fit : Rewrite t (file t end) text
  pub tables : (k : ℕ) → (requested boxed t line text reply u k).table ≡ run t (take k (rewriting t (file t end) text))
  pub table : (requested boxed t line text reply u j).table ≡ run t (rewriting t (file t end) text)
  pub stores : (requested boxed t line text reply u j).answer.stores ≡ length (rewriting t (file t end) text)

-- at one stop number it is whole, and so at each it makes the first of those stores
module _ (t line text reply : List ℕ) (u j : ℕ) (name : Word) (c : Sound t) (short : length text ≤ 24000)
    (q : (k : ℕ) → requested boxed t line text reply u k ≡ single t reply k (ran k (rewrite_plan boxed t u text name)))
    (z : (requested boxed t line text reply u j).answer.number ≡ 0) where
  abbrev x : Planned
  x = rewrite_plan boxed t u text name

  abbrev Whole : Type 0
  Whole = (p : Plan) × Passed x p × (length p.stores ≤ j)

  whole : Whole
  whole =
      ran-by (λ y. (single t reply j y).answer.number ≡ 0 → Whole) j x
      (λ f v n.
      let names : ℕ → List (List ℕ) = λ _. name.names in
      let fair = fair-rewrite_plan names t reply u text name (record { from = omega arith; long = refl }) in
      let b : ⊥ = omega (arith, fair-some names f (fair-refused names reply x f fair v), n) in absurd b)
      (λ p v l _. (p, v, l)) (λ p v l n. let b : ⊥ = omega (arith, n) in absurd b) (rw (q j) at z)

  by-plan : (p : Plan) → Passed x p → length p.stores ≤ j → Rewrote t line text reply u j name
  by-plan p v l =
      let g = rewrite-granted t c u text name short p v in
      record {
        directory = g.directory;
        end = g.end;
        walked = g.walked;
        last = g.last;
        fit = g.fit;
        tables = λ k. at k ∙ ap (λ (ss : List Store). run t (take k ss)) g.stores;
        table = at_j ∙ ap (run t) g.stores;
        stores = many ∙ ap length g.stores;
      }
    where
      at : (k : ℕ) → (requested boxed t line text reply u k).table ≡ run t (take k p.stores)
      at k =
          by_cases (dec_le (length p.stores) k)
          (λ (m : length p.stores ≤ k). rw (q k, passes k x p v m, take_all k p.stores m))
          (λ (m : ¬ (length p.stores ≤ k)). rw (q k, cuts k x p v (omega arith)))

      at_j : (requested boxed t line text reply u j).table ≡ run t p.stores
      at_j = rw (q j, passes j x p v l)

      many : (requested boxed t line text reply u j).answer.stores ≡ length p.stores
      many = rw (q j, passes j x p v l)

module _ (t line text reply : List ℕ) (u j : ℕ) (name : Word) (s : sized t ≡ true) (e : sound boxed t ≡ true)
    (a : asked line text ≡ request (rewrite name)) (z : (requested boxed t line text reply u j).answer.number ≡ 0) where
  right : Right t
  right = sound-right t s e

  c : Sound t
  c = right.clauses

  pub rewrote : Rewrote t line text reply u j name
  unfolding granted
  rewrote = go (course t line text reply u)
    where
      go : Course t line text reply u → Rewrote t line text reply u j name
      go (untried f h q) = let b : f.number ≡ 0 = rw (q j) at z in let y : ⊥ = omega (arith, fair-some (names_at line) f h) in absurd y
      go (tried r h q) =
          let b : r ≡ rewrite name = same-request (sym h.asked ∙ a) in
          let m : Told text (rewrite name) = rw b at h.told in
          let p : (k : ℕ) → requested boxed t line text reply u k ≡ granted boxed t text reply u k (rewrite name) = rw b at q in
          let w = whole t line text reply u j name c m.text p z in
          by-plan t line text reply u j name c m.text p z w.0 w.1 w.2

  -- the heading of the file
  pub the-file : ℕ
  the-file = file t rewrote.end

  -- "the heading marked .., old text cleared by position, new text .., heading unmarked"
  pub rewrite-stores : (requested boxed t line text reply u j).answer.stores ≡ 2 + blocks_of t the-file + blocks (length text)
  unfolding the-file
  rewrite-stores = rewrote.stores ∙ length-rewriting t (file t rewrote.end) text

  -- "before, after, or after with that one file marked and empty", and when: before at no store, after at all, and at every cut between
  pub record When : Type 0 where
    pub none : mended (requested boxed t line text reply u 0).table ≡ t
    pub some : (k : ℕ) → 1 ≤ k → k < (requested boxed t line text reply u j).answer.stores
        → mended (requested boxed t line text reply u k).table ≡ emptied (requested boxed t line text reply u j).table the-file
    pub all : (k : ℕ) → (requested boxed t line text reply u j).answer.stores ≤ k
        → mended (requested boxed t line text reply u k).table ≡ (requested boxed t line text reply u j).table

  pub rewrite-when : When
  unfolding the-file
  rewrite-when =
      let g = rewrote in
      let h : ℕ = file t g.end in
      record {
        none = rw (g.tables 0) (cut-first t h text c g.fit right.counts);
        some = λ k l m. rw (g.tables k, g.table) (
            cut-half t h text c g.fit right.counts k l (rw g.stores at m) ∙ sym (emptied-again t h text c g.fit));
        all = λ k l. rw (g.tables k, g.table) (cut-last t h text c g.fit right.counts k (rw g.stores at l));
      }

-- ---- "every link to them should see the new text"

-- a name of user v that leads to heading h of t, on which nothing inhibits reading
pub record Leads (t : List ℕ) (v h : ℕ) (from : Begin) (name : Word) : Type 0 where
  pub directory : State
  pub end : State
  pub walk : ended boxed t (start (list_of v from)) (chain_of (begun from name)) ≡ arrived directory end
  pub file : file t end ≡ h
  pub reads : no_read end.code ≡ false

module _ (t : List ℕ) (h : ℕ) (new : List ℕ) (c : Sound t) (w : Rewrite t h new) where
  abbrev g : List ℕ
  g = run t (rewriting t h new)

  sound-g : Sound g
  sound-g = refilled-sound t h new c w

  -- the file's code stays, emptied and rewritten
  code-emptied : heading_code (rec (emptied t h) h) ≡ heading_code (rec t h)
  code-emptied = rw (emptied-heading t h c w.file) (rewritten-byte (rec t h) 1 0 3 (omega arith, inl (omega arith)))

  code-rewritten : heading_code (rec g h) ≡ heading_code (rec (emptied t h) h)
  code-rewritten = rw (code-emptied, heading-there t h new c w) (rewritten-byte (rec t h) 0 (length new) 3 (omega arith, inl (omega arith)))

  -- a walk ends after as it ended before
  same_end : (s : State) (ns : List (List ℕ)) → ended boxed g s ns ≡ ended boxed t s ns
  same_end s ns =
      ended_same (emptied t h) g h (emptied-sound t h c w.file) (refilled t h new c w) code-rewritten s ns
      ∙ ended_same t (emptied t h) h c (emptied-retexted t h c w.file) code-emptied s ns

  same-file : (f : State) → byte (rec t f.entry) 0 ≡ 2 → file g f ≡ file t f
  same-file f k =
      let a = entry-stays t (emptied t h) h c (emptied-retexted t h c w.file) code-emptied f.entry k in
      let b = entry-stays (emptied t h) g h (emptied-sound t h c w.file) (refilled t h new c w) code-rewritten f.entry (rw a k) in
      rw (b, a)

  -- the new text is found by position
  new-text : file_text g h ≡ new
  unfolding file_text
  new-text =
      rw (heading-there t h new c w, last-length t h new c w)
      (join-cong (λ p. held (rec g (text_room g h p))) (block new) (blocks (length new)) (λ p l. at p l) ∙ join-blocks new)
    where
      at : (p : ℕ) → p < blocks (length new) → held (rec g (text_room g h p)) ≡ block new p
      at p l =
          let i : ℕ = room (emptied t h) p in
          let q : text_room g h p ≡ i =
          room-only g h p (rw (rooms-run t (rewriting t h new)) (once-there t h new c w p l)) i (rw (rooms-run t (rewriting t h new)) (room_in t h new c w p l))
          (rw (text-laid t h new c w p l) (text-by h p _ (text_at_lem t h new c w p l))) in
          rw (q, text-laid t h new c w p l) (text-held h p (block new p))

  -- whoever could read the file before reads the new text, or the part of it that he asks for
  reads-new : (v : ℕ) (from : Begin) (name : Word) (first count : Part) (line text reply : List ℕ) (k : ℕ)
      → counts_true t ≡ true → asked line text ≡ request (rds from name first count) → v ≤ 999999 → Leads t v h from name → Holds new reply first count
      → requested boxed g line text reply v k ≡ bringing g (part new first count) reply
  reads-new v from name first count line text reply k e a l p m =
      let q : granted_text g v from name granted-g ≡ new = ap (file_text g) at-h ∙ new-text in
      part-read g line text reply v k from name first count a granted-g (rw q m) ∙ rw q
    where
      at-h : file g p.end ≡ h
      at-h = same-file p.end (arrived-entry t _ _ p.directory p.end p.walk) ∙ p.file

      granted-g : Granted g v from name
      granted-g =
          let z = right-sound g (record { clauses = sound-g; counts = refilled-true t h new c w e }) in
          record {
            sized = z.0;
            sound = z.1;
            user = l;
            readable =
                record {
                  directory = p.directory;
                  end = p.end;
                  walk = same_end _ _ ∙ p.walk;
                  reads = p.reads;
                  simple =
                      rw (at-h, heading-there t h new c w)
                      (typed-by 1 (rewritten (rec t h) 0 (length new)) (last-kind t h new c w) (head-type t h c w.file 0 (length new) w.short));
                  unmarked = rw (at-h, heading-there t h new c w, rewritten-mark (rec t h) 0 (length new) (size-h t h c w.file));
                };
          }

-- the theorem for the customer: after a granted `WRS*`, RDS by every path that could read the file before, of every user, brings the
-- new text, or the part of it that is asked for, into every buffer that it fits
pub rewrite-read : (t line text reply : List ℕ) (u j : ℕ) (name : Word) (s : sized t ≡ true) (e : sound boxed t ≡ true)
    (a : asked line text ≡ request (rewrite name)) (z : (requested boxed t line text reply u j).answer.number ≡ 0)
    → (v : ℕ) (from : Begin) (path : Word) (first count : Part) (rds-line rds-text back : List ℕ) (k : ℕ)
    → asked rds-line rds-text ≡ request (rds from path first count) → v ≤ 999999
    → Leads t v (the-file t line text reply u j name s e a z) from path → Holds text back first count
    → requested boxed (requested boxed t line text reply u j).table rds-line rds-text back v k
    ≡ bringing (requested boxed t line text reply u j).table (part text first count) back
unfolding the-file
rewrite-read t line text reply u j name s e a z v from path first count l x back k b m p n =
    let g = rewrote t line text reply u j name s e a z in
    let right = sound-right t s e in
    rw g.table (reads-new t (file t g.end) text right.clauses g.fit v from path first count l x back k right.counts b m p n)
