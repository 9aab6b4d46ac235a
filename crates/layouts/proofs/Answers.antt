-- "Every request answers as on the old table, with the converted table after it, stores included": a legible table and its conversion are twins, so
-- every request and every mend, cut after any store or whole, leaves twins, and the twin of a table is its conversion.
use mathlib.Core.Bool.{true, false}
use mathlib.Core.List.{List, []}
use mathlib.Core.Logic.{by_cases, ◌≢◌}
use mathlib.Core.Path.{◌≡◌, refl, sym, ◌∙◌}
use Prim.Native.Nat.{ℕ, ◌%◌}
use native.Mathlib.Decide.{ℕ_discrete}
use lib.ListN.{length}
use borrow.Author.Tests.{ne_eqb}
use Rattle.paper.specs.Layout.{Layout}
use Rattle.paper.specs.Table.{sized}
use Rattle.paper.specs.Check.{whole, refusal_at, verdict}
use Rattle.paper.specs.Sound.{sound}
use Rattle.paper.specs.Answer.{Outcome, refusing, entrance, requested, mendable, mending}
use Rattle.paper.specs.Convert.{converted, converting}
use Rattle.laws.proofs.Lay.{Whole}
use Rattle.laws.proofs.Runs.{length_run}
use Rattle.laws.proofs.Sound.{sized-whole}
use Rattle.layouts.proofs.Lawful.{Lawful}
use Rattle.layouts.proofs.Outcomes.{Same}
use Rattle.layouts.proofs.Mending.{mending-twin}
use Rattle.layouts.proofs.Requests.{requested-twin}
use Rattle.layouts.proofs.Converted.{Legible, twins-legible, converted-twins, is-converted, sound-converted, there_and_back}

-- an outcome by A, and one by B on the converted table: the same answer, the same reply, and the converted table after it
pub record Follows (A B : Layout) (o p : Outcome) : Type 0 where
  pub answer : p.answer ≡ o.answer
  pub reply : p.reply ≡ o.reply
  pub table : p.table ≡ converted A B o.table
  pub legible : Legible A o.table

-- a table of no whole number of records gets 1
not-sized : (t : List ℕ) → length t % 32 ≢ 0 → sized t ≡ false
not-sized t n = rw (ne_eqb (length t % 32) 0 n)

refuses-request : (L : Layout) (t line text reply : List ℕ) (u k : ℕ) → sized t ≡ false
    → requested L t line text reply u k ≡ refusing t reply (refusal_at 1 (whole 0))
unfolding requested entrance verdict
refuses-request L t line text reply u k e = rw e

refuses-mend : (L : Layout) (t : List ℕ) (k : ℕ) → sized t ≡ false → mending L t k ≡ refusing t [] (refusal_at 1 (whole 0))
unfolding mending mendable verdict
refuses-mend L t k e = rw e

length-converted : (A B : Layout) (t : List ℕ) → length (converted A B t) ≡ length t
unfolding converted
length-converted A B t = length_run t _

module _ {A B : Layout} (a : Lawful A) (b : Lawful B) (t : List ℕ) (h : Legible A t) where
  follows : (o p : Outcome) → Same A B o p → Follows A B o p
  follows o p x =
      record {
        answer = sym x.answer;
        reply = sym x.reply;
        table = is-converted a b o.table p.table x.table;
        legible = twins-legible x.table;
      }

  -- by the table's length
  split : (o p : Outcome) → (Whole t → Same A B o p) → (length t % 32 ≢ 0 → Follows A B o p) → Follows A B o p
  split o p f g = by_cases (ℕ_discrete (length t % 32) 0) (λ (w : length t % 32 ≡ 0). follows o p (f w)) g

  not-sized-too : length t % 32 ≢ 0 → sized (converted A B t) ≡ false
  not-sized-too n = not-sized (converted A B t) (rw length-converted n)

  pub requests-follow : (line text reply : List ℕ) (u k : ℕ)
      → Follows A B (requested A t line text reply u k) (requested B (converted A B t) line text reply u k)
  requests-follow line text reply u k =
      split (requested A t line text reply u k) (requested B (converted A B t) line text reply u k)
      (λ w. requested-twin a b (converted-twins a b t w h) text reply u k line)
      (λ n.
      rw (refuses-request A t line text reply u k (not-sized t n), refuses-request B (converted A B t) line text reply u k (not-sized-too n))
      (record { answer = refl; reply = refl; table = refl; legible = h }))

  pub mends-follow : (k : ℕ) → Follows A B (mending A t k) (mending B (converted A B t) k)
  mends-follow k =
      split (mending A t k) (mending B (converted A B t) k) (λ w. mending-twin (converted-twins a b t w h) k)
      (λ n.
      rw (refuses-mend A t k (not-sized t n), refuses-mend B (converted A B t) k (not-sized-too n))
      (record { answer = refl; reply = refl; table = refl; legible = h }))

-- ---- the call

-- "others get 1 or 2 and stay"
pub others-stay : (A B : Layout) (t : List ℕ) → sized t ≡ false → converting A B t ≡ record { number = 1; table = t }
unfolding converting
others-stay A B t e = rw e

pub unsound-stay : (A B : Layout) (t : List ℕ) → sized t ≡ true → sound A t ≡ false → converting A B t ≡ record { number = 2; table = t }
unfolding converting
unsound-stay A B t z e = rw (z, e)

pub converts : (A B : Layout) (t : List ℕ) → sized t ≡ true → sound A t ≡ true → converting A B t ≡ record { number = 0; table = converted A B t }
unfolding converting
converts A B t z e = rw (z, e)

-- a sound and legible table: there, and back; and what is asked of it
module _ {A B : Layout} (a : Lawful A) (b : Lawful B) (t : List ℕ) (h : Legible A t) (z : sized t ≡ true) (e : sound A t ≡ true) where
  pub converts-back : converting B A (converting A B t).table ≡ record { number = 0; table = t }
  converts-back =
      let w : Whole t = (sized-whole t z).0 in
      let y : sized (converted A B t) ≡ true = rw length-converted z in
      rw (converts A B t z e, converts B A (converted A B t) y (sym (sound-converted a b t w h) ∙ e), there_and_back a b t w h)

  pub answers-alike : (line text reply : List ℕ) (u k : ℕ)
      → Follows A B (requested A t line text reply u k) (requested B (converting A B t).table line text reply u k)
  answers-alike line text reply u k = rw (converts A B t z e) (requests-follow a b t h line text reply u k)
