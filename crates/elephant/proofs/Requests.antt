-- A request by the tests that `request` makes: the entrance, what the reader answers, the length of the text, and then its function.
-- What was read tells each function what it needs: a link name is short, and the first name of a DEL or of a DST is word 1.
use mathlib.Core.Bool.{true, false, ◌&&◌}
use mathlib.Core.List.{List, [], ◌∷◌}
use mathlib.Core.Path.{◌≡◌, refl, sym, ap, ◌∙◌, subst}
use Prim.Native.Nat.{ℕ, ◌≤◌}
use native.Mathlib.Omega.{arith}
use lib.Dec.{leb}
use lib.ListN.{length, get_or, drop}
use borrow.Author.Tests.{leb-true}
use Rattle.paper.specs.Layout.{boxed}
use Rattle.paper.specs.Check.{whole, Refusal, refusal_at, passed, refused, check}
use Rattle.paper.specs.Line.{Word, words, word}
use Rattle.paper.specs.Request as paper
use Rattle.paper.specs.Request.{chn, del, dst, request, unread, read, text_too_long, read_as, with_text, asked}
use Rattle.paper.specs.Answer.{refusing, acted, granted, requested, entrance}
use Rattle.paper.specs.Name.{all, in_name, link_name}
use Rattle.paper.specs.Walk.{last_name}
use Rattle.laws.proofs.Tests.{and_left, and_right}
use Rattle.demands.proofs.Request.Read.{Told, Right, read_right}
use Rattle.reader.specs.Asked.{first_start}
use Rattle.reader.specs.declared.request.Request.{Request}
use Rattle.std.specs.Prelude.{Ok}
use Rattle.reader.proofs.Ties.{rest-word}
use Rattle.elephant.specs.Meant.{request_meant, removal_asked}
use Rattle.reader.specs.Asked.{shown_read}
use Rattle.elephant.specs.declared.removal.Removal.{Removal}
use Rattle.elephant.specs.declared.removal.Removal.TheVariants.{Delete, Destroy}
use Rattle.elephant.proofs.Verdicts.{first_holds, first_passes, none_left}
use Rattle.elephant.proofs.Asking.{read-granted}

module _ (t line text reply : List ℕ) (u k : ℕ) where
  -- 1, 2, 3
  pub requested-out : (f : Refusal) → entrance boxed t u ≡ refused f → requested boxed t line text reply u k ≡ refusing t reply f
  unfolding requested
  requested-out f e = rw e

  module _ (e : entrance boxed t u ≡ passed) where
    acts : (x : paper.Read) → asked line text ≡ x → requested boxed t line text reply u k ≡ acted boxed t text reply u k x
    unfolding requested
    acts x q = rw (e, q)

    -- 4 to 9
    pub requested-unread : (g : Refusal) → read line ≡ unread g → requested boxed t line text reply u k ≡ refusing t reply g
    unfolding asked
    requested-unread g q = acts (unread g) (rw q)

    module _ (r : Request) (q : Ok r ≡ shown_read (read line)) where
      -- 10
      pub requested-long : text_too_long (request_meant line r) text ≡ true
          → requested boxed t line text reply u k ≡ refusing t reply (refusal_at 10 (whole 0))
      unfolding asked
      requested-long b =
          acts (unread (refusal_at 10 (whole 0)))
          (ap (with_text text) (read-granted line r q)
          ∙ ap (read_as (request_meant line r)) (first_holds (check (text_too_long (request_meant line r) text) 10 (whole 0)) [] b))

      -- what was asked
      pub asked-granted : text_too_long (request_meant line r) text ≡ false → asked line text ≡ request (request_meant line r)
      unfolding asked
      asked-granted b =
          ap (with_text text) (read-granted line r q)
          ∙ ap (read_as (request_meant line r)) (first_passes (check (text_too_long (request_meant line r) text) 10 (whole 0)) [] b ∙ none_left)

      pub requested-granted : text_too_long (request_meant line r) text ≡ false
          → requested boxed t line text reply u k ≡ granted boxed t text reply u k (request_meant line r)
      requested-granted b = acts (request (request_meant line r)) (asked-granted b)

-- the names of a DEL or of a DST
pub names-read : (a : Removal) (line : List ℕ) (first count : ℕ) → Ok (removal_asked a first count) ≡ shown_read (read line)
    → (first ≡ first_start (drop 1 (words line))) × (count ≡ length (drop 1 (words line)))
names-read a line first count e = go a (e ∙ ap shown_read (read-granted line (removal_asked a first count) e))
  where
    go : (a : Removal) → Ok (removal_asked a first count) ≡ shown_read (request (request_meant line (removal_asked a first count)))
        → (first ≡ first_start (drop 1 (words line))) × (count ≡ length (drop 1 (words line)))
    go Delete z = (cc, cc)
    go Destroy z = (cc, cc)

-- what was asked has all that its function needs
pub told : (line text : List ℕ) (r : paper.Request) → asked line text ≡ request r → Told text r
told line text r e = subst (Right text) e (read_right line text)

-- the link of a CHN is short
pub link-short : (line text : List ℕ) (old link : Word) → asked line text ≡ request (chn old link) → length (last_name link.names) ≤ 10
unfolding link_name
link-short line text old link e =
    let n : List ℕ = last_name link.names in
    let f = (told line text (chn old link) e).link in
    leb-true (length n) 10 (and_right (leb 1 (length n)) (leb (length n) 10) (and_left (leb 1 (length n) && leb (length n) 10) (all in_name n) f))

-- the first name of a DEL or of a DST is word 1, and there are at most 8
first_word : (line : List ℕ) (ws : List Word) → ws ≡ drop 1 (words line) → 1 ≤ length ws → first_start ws ≡ (word line 1).start
first_word line [] e l = let z : ⊥ = omega arith in absurd z
first_word line (w ∷ ws) e l =
    let none : Word = record { start = length line; names = [] ∷ [] } in
    sym (ap (λ (x : Word). x.start) (sym (rest-word line 0) ∙ ap (λ (x : List Word). get_or x 0 none) (sym e)))

pub names-first : (a : Removal) (line text : List ℕ) (first count : ℕ) → asked line text ≡ request (request_meant line (removal_asked a first count))
    → (first_start (drop 1 (words line)) ≡ (word line 1).start) × (length (drop 1 (words line)) ≤ 8)
names-first Delete line text first count e =
    let d = told line text (del (drop 1 (words line))) e in
    (first_word line (drop 1 (words line)) refl d.some, d.few)
names-first Destroy line text first count e =
    let d = told line text (dst (drop 1 (words line))) e in
    (first_word line (drop 1 (words line)) refl d.some, d.few)
