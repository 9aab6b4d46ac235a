-- A pass leaves the records below n moved and those from n on as they were: a turn lays record n alone. At the end every record is moved,
-- as every record of the converted table is, so that the tables are equal.
use mathlib.Core.Bool.{Bool, true, false, cond}
use mathlib.Core.List.{List}
use mathlib.Core.Logic.{◌≢◌, by_cases}
use mathlib.Core.Path.{◌≡◌, refl, sym, ap, ◌∙◌}
use Prim.Native.Nat.{ℕ, ◌+◌, ◌≤◌, ◌<◌}
use native.Mathlib.Omega.{arith}
use native.Mathlib.Decide.{ℕ_discrete}
use lib.ListN.{length}
use borrow.Author.Tests.{eq-eqb, ne_eqb}
use Rattle.paper.specs.Record.{byte, is_kind}
use Rattle.paper.specs.Layout.{Layout, name_of}
use Rattle.paper.specs.Table.{rooms, rec, lay}
use Rattle.paper.specs.Store.{fills}
use Rattle.paper.specs.Effect.{renamed}
use Rattle.paper.specs.Convert.{moved, converted}
use Rattle.laws.proofs.Lay.{Whole, length-rec, length-lay, lay-same, lay-other, ext-table}
use Rattle.laws.proofs.Runs.{length_run}
use Rattle.laws.proofs.Fills.{rec-filled}
use Rattle.layouts.proofs.Lengths.{Fits}
use Rattle.convert.specs.Turned.{turned}

-- ---- one record

pub turned-not : (A B : Layout) (t : List ℕ) (i : ℕ) → byte (rec t i) 0 ≢ 2 → t ≡ turned A B t i
unfolding turned
turned-not A B t i n = rw (ne_eqb (byte (rec t i) 0) 2 n)

pub turned-entry : (A B : Layout) (t : List ℕ) (i : ℕ) → byte (rec t i) 0 ≡ 2 → lay t i (renamed B (rec t i) (name_of A (rec t i))) ≡ turned A B t i
unfolding turned moved
turned-entry A B t i k = rw (eq-eqb (byte (rec t i) 0) 2 k)

-- ---- a pass

pub record Moving (A B : Layout) (t s : List ℕ) (n : ℕ) : Type 0 where
  pub size : length s ≡ length t
  pub done : (j : ℕ) → j < n → j < rooms t → rec s j ≡ moved A B (rec t j)
  pub left : (j : ℕ) → n ≤ j → j < rooms t → rec s j ≡ rec t j

pub moving-start : (A B : Layout) (t : List ℕ) → Moving A B t t 0
moving-start A B t = record { size = refl; done = λ j l _. let z : ⊥ = omega arith in absurd z; left = λ j _ _. refl }

module _ (A B : Layout) (fits : Fits A B) where
  length-turned : (s : List ℕ) (n : ℕ) → length (turned A B s n) ≡ length s
  unfolding turned
  length-turned s n = go (is_kind 2 (rec s n))
    where
      go : (c : Bool) → length (cond c (lay s n (moved A B (rec s n))) s) ≡ length s
      go true = length-lay s n (moved A B (rec s n))
      go false = refl

  turned-here : (s : List ℕ) (n : ℕ) → n < rooms s → rec (turned A B s n) n ≡ moved A B (rec s n)
  unfolding turned
  turned-here s n l = go (is_kind 2 (rec s n)) refl
    where
      go : (c : Bool) → is_kind 2 (rec s n) ≡ c → rec (cond c (lay s n (moved A B (rec s n))) s) n ≡ moved A B (rec s n)
      go true e = lay-same s n (moved A B (rec s n)) (fits (rec s n) (length-rec s n l)) l
      go false e = unfold moved in rw e

  turned-other : (s : List ℕ) (n j : ℕ) → n < rooms s → j ≢ n → j < rooms s → rec (turned A B s n) j ≡ rec s j
  unfolding turned
  turned-other s n j l d m = go (is_kind 2 (rec s n))
    where
      go : (c : Bool) → rec (cond c (lay s n (moved A B (rec s n))) s) j ≡ rec s j
      go true = lay-other s n (moved A B (rec s n)) j (fits (rec s n) (length-rec s n l)) d m
      go false = refl

  pub moving-next : (t s u : List ℕ) (n : ℕ) → n < rooms t → Moving A B t s n → u ≡ turned A B s n → Moving A B t u (n + 1)
  moving-next t s u n l x e = rw e (record { size = length-turned s n ∙ x.size; done = done; left = left })
    where
      within : (j : ℕ) → j < rooms t → j < rooms s
      within j m = rw x.size m

      done : (j : ℕ) → j < n + 1 → j < rooms t → rec (turned A B s n) j ≡ moved A B (rec t j)
      done j k m =
          by_cases (ℕ_discrete j n)
          (λ (q : j ≡ n). rw q (turned-here s n (within n l) ∙ ap (moved A B) (x.left n (omega arith) l)))
          (λ (q : j ≢ n). turned-other s n j (within n l) q (within j m) ∙ x.done j (omega arith) m)

      left : (j : ℕ) → n + 1 ≤ j → j < rooms t → rec (turned A B s n) j ≡ rec t j
      left j k m = turned-other s n j (within n l) (omega arith) (within j m) ∙ x.left j (omega arith) m

  pub moving-end : (t s : List ℕ) → Whole t → Moving A B t s (rooms t) → s ≡ converted A B t
  unfolding converted
  moving-end t s w x =
      ext-table s (converted A B t) (x.size ∙ sym (length_run t (fills (λ i. is_kind 2 (rec t i)) (λ i. moved A B (rec t i)) (rooms t)))) (rw x.size w)
      (λ i l.
      let m : i < rooms t = rw x.size at l in
      x.done i m m
      ∙ sym (rec-filled t (λ i. is_kind 2 (rec t i)) (λ i. moved A B (rec t i)) (λ j k. fits (rec t j) (length-rec t j k)) i m ∙ kept i))
    where
      kept : (i : ℕ) → cond (is_kind 2 (rec t i)) (moved A B (rec t i)) (rec t i) ≡ moved A B (rec t i)
      kept i = unfold moved in go (is_kind 2 (rec t i)) (renamed B (rec t i) (name_of A (rec t i))) (rec t i)
        where
          go : (c : Bool) (x y : List ℕ) → cond c (cond c x y) y ≡ cond c x y
          go true x y = refl
          go false x y = refl
