-- A step asks each record of the table that the ones before have left. It clears records of one kind and asks others for another, so each
-- is asked as if none had been cleared: what is put into the order is what the step clears.
use mathlib.Core.Bool.{Bool, true, false, ◌&&◌, ◌||◌, not, cond}
use mathlib.Core.List.{List, [], ◌∷◌, ◌++◌, append_assoc}
use mathlib.Core.Logic.{◌⊎◌, inl, inr, by_cases}
use mathlib.Core.Path.{◌≡◌, refl, sym, ap, ◌∙◌}
use Prim.Native.Nat.{ℕ, ◌+◌, ◌<◌, ◌≤◌}
use native.Mathlib.Omega.{arith}
use native.Mathlib.Decide.{dec_lt}
use lib.Dec.{eqb}
use lib.ListN.{length, get_or}
use lib.Seq.{take-length}
use borrow.Author.Tests.{eqb-true}
use Rattle.paper.specs.Count.{namings}
use Rattle.paper.specs.Entry.{named}
use Rattle.paper.specs.Mend.{anchored, adrift, orphan, keeps_text, stray, round_stores}
use Rattle.paper.specs.Record.{byte, is_kind, heading_named, holder_of, heading_of, blank}
use Rattle.paper.specs.Scan.{any_below}
use Rattle.paper.specs.Store.{Store, clear, clears, run}
use Rattle.paper.specs.Table.{rooms, rec}
use Rattle.judge_laws.specs.Mask.{without}
use Rattle.judge_laws.proofs.Mask.{rooms-without, whole-without}
use Rattle.laws.proofs.Lay.{Whole, length-blank, rec-past}
use Rattle.laws.proofs.Lists.{every-imp}
use Rattle.laws.proofs.Runs.{Lays, run-each, length_run}
use Rattle.laws.proofs.Scans.{any_false, any-more}
use Rattle.laws.proofs.Tests.{and_left, or-no-left, or-no-right, or-none}
use Rattle.effects.proofs.Counted.{fills-start, fills-more, rec-ahead}
use Rattle.demands.proofs.Mending.Wipe.{Blanks, every-clears}
use Rattle.demands.proofs.Mending.Squeeze as squeeze
use Rattle.records.specs.Numbered.{Numbered}
use Rattle.records.proofs.Numbered.{named-tells}
use Rattle.mending.specs.Found.{ordered, Found, unnamed, stepped, unsettled}
use Rattle.mending.specs.declared.Step.{Step}
use Rattle.mending.specs.declared.Step.TheVariants.{Entries, Headings, Text}
use Rattle.mending.proofs.Order.{found_none, found_as, found_after}
use Rattle.mending.proofs.Left.{no-text}

-- a table with the records below n that pass cleared
module _ (u : List ℕ) (w : Whole u) (p : ℕ → Bool) (n : ℕ) (m : n ≤ rooms u) where
  left : List ℕ
  left = run u (clears p n)

  -- a test that neither a free record nor one that is cleared passes
  same_test : (f : List ℕ → Bool) → f blank ≡ false → ((j : ℕ) → p j ≡ true → f (rec u j) ≡ false) → (h : ℕ) → f (rec left h) ≡ f (rec u h)
  unfolding left
  same_test f z k h = by_cases (dec_lt h (rooms u)) inside outside
    where
      one : (x : Store) → Lays (Blanks p) n x → Lays (Blanks p) (rooms u) x
      one x y = let b : x.at < n = y.within in record { within = omega arith; size = y.size; holds = y.holds }

      go : (rec (run u (clears p n)) h ≡ rec u h) ⊎ Blanks p h (rec (run u (clears p n)) h) → f (rec (run u (clears p n)) h) ≡ f (rec u h)
      go (inl e) = rw e
      go (inr e) = ap f e.0 ∙ z ∙ sym (k h e.1)

      inside : h < rooms u → f (rec (run u (clears p n)) h) ≡ f (rec u h)
      inside l = go (run-each (Blanks p) u (clears p n) (every-imp _ _ (clears p n) one (every-clears p n)) h l)

      outside : ¬ (h < rooms u) → f (rec (run u (clears p n)) h) ≡ f (rec u h)
      outside l = ap f (rec-past (run u (clears p n)) h (rw (length_run u _) w) (rw (length_run u _) (omega arith)) ∙ sym (rec-past u h w (omega arith)))

-- the record at the bound is as it was
here : (u : List ℕ) (p : ℕ → Bool) (i : ℕ) → i < rooms u → rec (run u (clears p i)) i ≡ rec u i
here u p i l =
    rw (take-length (clears p i)) at (rec-ahead p (λ _. blank) u (length (clears p i)) i i (λ _ _. length-blank) (omega arith) l)

-- no record is of two kinds
apart : (k m : ℕ) (r : List ℕ) (b : Bool) → eqb k m ≡ false → (is_kind k r && b) ≡ true → is_kind m r ≡ false
apart k m r b z e = let q : byte r 0 ≡ k = eqb-true _ _ (and_left (is_kind k r) b e) in rw q z

-- each record is asked as if none had been cleared
module _ (u : List ℕ) (w : Whole u) (named : List ℕ) (i : ℕ) (l : i < rooms u) where
  still₁ : adrift (run u (clears (adrift u) i)) i ≡ adrift u i
  unfolding anchored left
  still₁ = rw (here u (adrift u) i l, heading (heading_named (rec u i)), heading (holder_of (rec u i)))
    where
      heading : (h : ℕ) → is_kind 1 (rec (run u (clears (adrift u) i)) h) ≡ is_kind 1 (rec u h)
      heading = same_test u w (adrift u) i (omega arith) (is_kind 1) (unfold blank in refl) (λ j e. apart 2 1 (rec u j) _ refl e)

  still₂ : unnamed named (run u (clears (unnamed named u) i)) i ≡ unnamed named u i
  still₂ = rw (here u (unnamed named u) i l)

  still₃ : stray (run u (clears (stray u) i)) i ≡ stray u i
  unfolding left
  still₃ =
      rw (
        here u (stray u) i l,
        same_test u w (stray u) i (omega arith) keeps_text (unfold blank keeps_text in refl)
            (λ j e. no-text (rec u j) (apart 3 1 (rec u j) _ refl e)) (heading_of (rec u i)),
      )

  pub step-still : (step : Step) → stepped step named (run u (clears (stepped step named u) i)) i ≡ stepped step named u i
  step-still Entries = still₁
  step-still Headings = still₂
  step-still Text = still₃

-- none yet
pub step_start : (t gone order : List ℕ) (n : ℕ) (p : ℕ → Bool) → Found t gone order n (ordered order n)
    → Found t gone order n (ordered order n ++ clears p 0)
step_start t gone order n p f = rw (fills-start p (λ _. blank)) (found_none t gone order n (ordered order n) f)

-- one more record of a step
module _ (t gone gone₀ order order₀ named : List ℕ) (step : Step) (n n₀ i : ℕ) (w : Whole t) (l : i < rooms t)
    (f : Found t gone₀ order₀ n₀ (ordered order₀ n₀))
    (g : Found t gone order n (ordered order₀ n₀ ++ clears (stepped step named (without gone₀ t)) i)) where
  asked : stepped step named (without gone t) i ≡ stepped step named (without gone₀ t) i
  asked =
      ap (λ (x : List ℕ). stepped step named x i) (found_after t gone₀ gone order₀ order n₀ n _ f g)
      ∙ step-still (without gone₀ t) (whole-without gone₀ t w) named i (rw (rooms-without gone₀ t) l) step

  pub step-more : (gone' order' : List ℕ) (n' : ℕ)
      → Found t gone' order' n' (ordered order n ++ cond (stepped step named (without gone t) i) (clear i ∷ []) [])
      → Found t gone' order' n' (ordered order₀ n₀ ++ clears (stepped step named (without gone₀ t)) (i + 1))
  step-more gone' order' n' h = found_as t gone' order' n' _ _ same h
    where
      same : ordered order n ++ cond (stepped step named (without gone t) i) (clear i ∷ []) []
          ≡ ordered order₀ n₀ ++ clears (stepped step named (without gone₀ t)) (i + 1)
      same =
          rw (g.made, asked, fills-more (stepped step named (without gone₀ t)) (λ _. blank) i)
          (append_assoc (ordered order₀ n₀) (clears (stepped step named (without gone₀ t)) i)
          (cond (stepped step named (without gone₀ t) i) (clear i ∷ []) []))

-- the names counted tell which headings no entry names
flip : (a b : Bool) → not a ≡ b → a ≡ not b
flip true b e = rw (← e)
flip false b e = rw (← e)

pub unnamed-is : (u named : List ℕ) → rooms u ≤ 2048 → Numbered (namings u) named → (i : ℕ) → i < rooms u → unnamed named u i ≡ orphan u i
unnamed-is u a m n i l = rw (flip (eqb (get_or a i 0) 0) (named u i) (named-tells u a i n (omega arith)))

-- where no record is asked for by any step a round takes no store
pub settled-by : (u named : List ℕ) → rooms u ≤ 2048 → Numbered (namings u) named → any_below (unsettled named u) (rooms u) ≡ false → round_stores u ≡ []
unfolding unsettled
settled-by u a m n e =
    squeeze.quiet u (λ i l. or-no-left (adrift u i) _ (at i l))
    (λ i l. sym (unnamed-is u a m n i l) ∙ or-no-left (unnamed a u i) _ (or-no-right (adrift u i) _ (at i l)))
    (λ i l. or-no-right (unnamed a u i) _ (or-no-right (adrift u i) _ (at i l)))
  where
    at : (i : ℕ) → i < rooms u → (adrift u i || (unnamed a u i || stray u i)) ≡ false
    at i l = any_false (unsettled a u) (rooms u) i l e

pub settled-all : (gone t named : List ℕ) → rooms t ≤ 2048 → Numbered (namings (without gone t)) named
    → any_below (unsettled named (without gone t)) (rooms t) ≡ false → round_stores (without gone t) ≡ []
settled-all gone t a m n e = settled-by (without gone t) a (rw (rooms-without gone t) m) n (rw (rooms-without gone t) e)

-- asked record by record
pub unsettled-none : (named u : List ℕ) → any_below (unsettled named u) 0 ≡ false
unfolding any_below
unsettled-none a u = refl

pub unsettled-more : (named u : List ℕ) (i : ℕ) (b : Bool) → any_below (unsettled named u) i ≡ false → b ≡ unsettled named u i → b ≡ false
    → any_below (unsettled named u) (i + 1) ≡ false
unsettled-more a u i b n e z = any-more (unsettled a u) i ∙ or-none (unsettled a u i) _ (sym e ∙ z) n
