-- Going back along a directory's list is going down the records: those between two of a list are not entries of its directory.
-- One more record changes the list of its own directory, if it is an entry of one; a heading's place is no entry's.
use mathlib.Core.Bool.{true, false}
use mathlib.Core.List.{List}
use mathlib.Core.Logic.{◌≢◌, by_cases}
use mathlib.Core.Path.{◌≡◌, refl, sym, ap, ◌∙◌}
use Prim.Native.Nat.{ℕ, ◌+◌, ◌<◌}
use native.Mathlib.Decide.{ℕ_discrete}
use native.Mathlib.Omega.{arith}
use lib.ListN.{length, get_or, set, length-set, replicate, get_or-replicate}
use lib.Seq.{get_or-set_same, get_or-set_other}
use borrow.Author.Tests.{eqb-true, eq-eqb}
use Rattle.paper.specs.Record.{byte, is_kind, holder_of}
use Rattle.paper.specs.Table.{sized, rec}
use Rattle.judge_laws.specs.Tally.{last_below}
use Rattle.judge_laws.proofs.Lasts.{last_more}
use Rattle.laws.proofs.Tests.{not-both, false-by, and_right}
use Rattle.sweep.specs.Listed.{inside, Listed}
use Rattle.sweep.proofs.Marks.{heading_room, inside-entry}

-- no entry is listed yet
pub listed-none : (t : List ℕ) → sized t ≡ true → Listed t 0 (replicate 2048 0)
unfolding last_below
listed-none t w =
    record {
      from = λ d k. get_or-replicate 2048 d 0 0 (heading_room t d w k);
      on = λ e d l k q. let z : ⊥ = omega arith in absurd z;
      long = refl;
    }

inside-holder : (t : List ℕ) (d i : ℕ) → inside t d i ≡ true → holder_of (rec t i) ≡ d
inside-holder t d i e = eqb-true _ _ (and_right (is_kind 2 (rec t i)) _ e)

module _ (t : List ℕ) (i : ℕ) (list : List ℕ) (c : Listed t i list) where
  -- it is an entry of no directory
  listed-out : ((d : ℕ) → byte (rec t d) 0 ≡ 1 → inside t d i ≡ false) → Listed t (i + 1) list
  listed-out f =
      record {
        from = λ d k. c.from d k ∙ sym (last_more (inside t d) i ∙ rw (f d k));
        on = λ e d l k q. by_cases (ℕ_discrete e i)
            (λ (x : e ≡ i). absurd (not-both q (rw x (f d k))))
            (λ (x : e ≢ i). c.on e d (omega arith) k q);
        long = c.long;
      }

  pub listed_other : byte (rec t i) 0 ≢ 2 → Listed t (i + 1) list
  listed_other n = listed-out (λ d k. false-by (inside t d i) (λ z. n (inside-entry t d i z)))

  pub listed_nowhere : byte (rec t (holder_of (rec t i))) 0 ≢ 1 → Listed t (i + 1) list
  listed_nowhere n = listed-out (λ d k. false-by (inside t d i) (λ z. n (rw (inside-holder t d i z) k)))

  -- it is an entry of directory d
  module _ (d : ℕ) (room : d < 2048) (g : byte (rec t d) 0 ≡ 1) (k : byte (rec t i) 0 ≡ 2) (h : holder_of (rec t i) ≡ d) where
    here : inside t d i ≡ true
    here = rw k (eq-eqb _ _ h)

    elsewhere : (g : ℕ) → g ≢ d → inside t g i ≡ false
    elsewhere g n = false-by (inside t g i) (λ z. n (sym (inside-holder t g i z) ∙ h))

    -- a heading is no entry
    apart : (a b : ℕ) → byte (rec t a) 0 ≡ 1 → byte (rec t b) 0 ≡ 2 → a ≢ b
    apart a b x y e = let z : ⊥ = omega (arith, x, rw (sym e) at y) in z

    abbrev put : List ℕ
    put = set list i (get_or list d 0)

    pub listed_in : i < 2048 → Listed t (i + 1) (set put d (i + 1))
    listed_in w =
        record {
          from = λ a x. by_cases (ℕ_discrete a d)
              (λ (y : a ≡ d). rw y (get_or-set_same put d (i + 1) 0 (omega (arith, long)) ∙ sym (last_more (inside t d) i ∙ rw here)))
              (λ (y : a ≢ d). get_or-set_other put d a (i + 1) 0 y ∙ get_or-set_other list i a (get_or list d 0) 0 (apart a i x k) ∙ c.from a x
              ∙ sym (last_more (inside t a) i ∙ rw (elsewhere a y)));
          on = λ e a l x z. get_or-set_other put d e (i + 1) 0 (λ (y : e ≡ d). apart d e g (inside-entry t a e z) (sym y)) ∙ by_cases (ℕ_discrete e i)
              (λ (y : e ≡ i). rw y (get_or-set_same list i (get_or list d 0) 0 (omega (arith, c.long)) ∙ c.from d g
              ∙ ap (λ (y : ℕ). last_below (inside t y) i) (sym h ∙ inside-holder t a i (rw y at z))))
              (λ (y : e ≢ i). get_or-set_other list i e (get_or list d 0) 0 y ∙ c.on e a (omega arith) x z);
          long = length-set put d (i + 1) ∙ long;
        }
      where
        long : length put ≡ 2048
        long = length-set list i (get_or list d 0) ∙ c.long
