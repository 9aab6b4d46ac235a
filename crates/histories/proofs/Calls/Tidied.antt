-- What a mend and a sweep do, cut anywhere: each of their steps clears entries, or headings that no entry names by then, or text whose heading
-- keeps none by then, and last they write counts. So no entry is left that names a heading which they cleared, and text stays whose heading
-- keeps it and stays.
use mathlib.Core.Bool.{Bool, true, false}
use mathlib.Core.List.{List, [], ◌++◌}
use mathlib.Core.Logic.{◌⊎◌, inl, inr, ◌≢◌, by_cases, ⊎_elim}
use mathlib.Core.Path.{◌≡◌, refl, sym, ◌∙◌}
use Prim.Native.Nat.{ℕ, zero, suc, ◌-◌, ◌≤◌, ◌<◌}
use native.Mathlib.Omega.{arith}
use native.Mathlib.Decide.{dec_le, ℕ_discrete}
use lib.Dec.{leb}
use lib.ListN.{length, take}
use lib.Seq.{take-append-le, take-length}
use borrow.Author.Tests.{eqb-true}
use Rattle.paper.specs.Record.{byte, is_kind, heading_of, simple}
use Rattle.paper.specs.Table.{rooms, rec}
use Rattle.paper.specs.Entry.{named}
use Rattle.paper.specs.Store.{Store, clears, run}
use Rattle.paper.specs.Count.{recounts}
use Rattle.paper.specs.Mend.{keeps_text}
use Rattle.paper.specs.Check.{Verdict, passed, refused}
use Rattle.paper.specs.Answer.{Outcome, mend_run}
use Rattle.laws.proofs.Tests.{not-both, and_left, either}
use Rattle.laws.proofs.Lists.{every_take, take_past}
use Rattle.laws.proofs.Entries.{typed-kind}
use Rattle.laws.proofs.Lay.{Whole, within}
use Rattle.laws.proofs.Runs.{run-each, run-append, length_run}
use Rattle.demands.proofs.SoundKept.Freed.{text_of}
use Rattle.demands.proofs.Mending.Wipe.{Blanks, cut-wipe}
use Rattle.demands.proofs.Mending.Part.{Alike, equal, Below, free, stays, Less}
use Rattle.demands.proofs.Mending.Counts.{alike-kind, alike_same, alike-keeps}
use Rattle.demands.proofs.Mending.Less.{less-refl, less-trans}
use Rattle.histories.proofs.Calls.Stores.{less-stays, unnamed-still}
use Rattle.histories.proofs.Calls.Falls.{counts-alike}
use Rattle.histories.proofs.Calls.Moved.{text-of}

-- from t to s, by a mend or a sweep
pub record Tidied (t s : List ℕ) : Type 0 where
  pub less : Less t s
  -- a heading that is none any more is named by no entry
  pub last : (h : ℕ) → byte (rec t h) 0 ≡ 1 → byte (rec s h) 0 ≢ 1 → named s h ≡ false
  -- the text of a heading that keeps it and stays
  pub texts : (h i : ℕ) → keeps_text (rec t h) ≡ true → byte (rec s h) 0 ≡ 1 → text_of h (rec t i) ≡ true → rec s i ≡ rec t i

pub keeps-kind : (r : List ℕ) → keeps_text r ≡ true → byte r 0 ≡ 1
unfolding keeps_text
keeps-kind r e = typed-kind 1 r (and_left (simple r) _ e)

tidied-none : (t : List ℕ) → Tidied t t
tidied-none t = record { less = less-refl t; last = λ h k n. absurd (n k); texts = λ _ _ _ _ _. refl }

-- one after the other
tidied-trans : (t u s : List ℕ) → Whole t → Tidied t u → Tidied u s → Tidied t s
tidied-trans t u s w a b = record { less = less-trans t u s a.less b.less; last = last; texts = texts }
  where
    wu : Whole u
    wu = rw a.less.long w

    last : (h : ℕ) → byte (rec t h) 0 ≡ 1 → byte (rec s h) 0 ≢ 1 → named s h ≡ false
    last h k n =
        by_cases (ℕ_discrete (byte (rec u h) 0) 1)
        (λ (q : byte (rec u h) 0 ≡ 1). b.last h q n)
        (λ (q : byte (rec u h) 0 ≢ 1). unnamed-still u s h wu b.less (a.last h k q))

    texts : (h i : ℕ) → keeps_text (rec t h) ≡ true → byte (rec s h) 0 ≡ 1 → text_of h (rec t i) ≡ true → rec s i ≡ rec t i
    texts h i m z x =
        let k : byte (rec u h) 0 ≡ 1 = sym (alike-kind (rec u h) (rec s h) (less-stays u s wu b.less h (λ (y : byte (rec s h) 0 ≡ 0). omega arith))) ∙ z in
        let v : keeps_text (rec u h) ≡ true = alike-keeps (rec t h) (rec u h) (less-stays t u w a.less h (λ (y : byte (rec u h) 0 ≡ 0). omega arith)) ∙ m in
        let e : rec u i ≡ rec t i = a.texts h i m k x in
        b.texts h i v z (rw e x) ∙ e

-- ---- one step, cut or not

-- what it clears: no heading that an entry names, no text that a heading keeps
pub record Fine (t : List ℕ) (p : ℕ → Bool) : Type 0 where
  pub headings : (i : ℕ) → p i ≡ true → byte (rec t i) 0 ≡ 1 → named t i ≡ false
  pub texts : (i : ℕ) → p i ≡ true → byte (rec t i) 0 ≡ 3 → keeps_text (rec t (heading_of (rec t i))) ≡ false

module _ (t : List ℕ) (w : Whole t) (p : ℕ → Bool) (f : Fine t p) (s : List ℕ) (e : length s ≡ length t)
    (each : (i : ℕ) → i < rooms t → (rec s i ≡ rec t i) ⊎ Blanks p i (rec s i)) where
  step_less : Less t s
  step_less = record { long = e; each = λ i l. go i (each i l) }
    where
      go : (i : ℕ) → (rec s i ≡ rec t i) ⊎ Blanks p i (rec s i) → Below (rec t i) (rec s i)
      go i (inl q) = stays (equal q)
      go i (inr q) = free q.0

  step-tidied : Tidied t s
  step-tidied = record { less = step_less; last = last; texts = texts }
    where
      last : (h : ℕ) → byte (rec t h) 0 ≡ 1 → byte (rec s h) 0 ≢ 1 → named s h ≡ false
      last h k n =
          ⊎_elim (λ q. absurd (n (rw q k))) (λ q. unnamed-still t s h w step_less (f.headings h q.1 k))
          (each h (within t h w (λ (y : byte (rec t h) 0 ≡ 0). omega arith)))

      texts : (h i : ℕ) → keeps_text (rec t h) ≡ true → byte (rec s h) 0 ≡ 1 → text_of h (rec t i) ≡ true → rec s i ≡ rec t i
      texts h i m z x =
          let y = text-of h (rec t i) x in
          ⊎_elim (λ q. q) (λ q. absurd (not-both m (rw y.1 at (f.texts i q.1 y.0))))
          (each i (within t i w (λ (v : byte (rec t i) 0 ≡ 0). omega (arith, y.0))))

-- a test of one kind
pub kind-apart : (j k : ℕ) (r : List ℕ) {X : Type 0} → j ≢ k → is_kind j r ≡ true → byte r 0 ≡ k → X
kind-apart j k r n e z = absurd (n (sym (eqb-true _ _ e) ∙ z))

-- ---- stores, cut anywhere

abbrev pub Cuts : List ℕ → List Store → Type 0
Cuts t ss = (k : ℕ) → Tidied t (run t (take k ss))

pub cuts-nil : (t : List ℕ) → Cuts t []
unfolding run
cuts-nil t zero = tidied-none t
cuts-nil t (suc k) = tidied-none t

pub cuts-none : (t : List ℕ) (ss : List Store) → Cuts t ss → Tidied t (run t ss)
cuts-none t ss f = rw (take-length ss) at (f (length ss))

pub cuts-append : (t : List ℕ) → Whole t → (a b : List Store) → Cuts t a → Cuts (run t a) b → Cuts t (a ++ b)
cuts-append t w a b f g k =
    by_cases (dec_le k (length a))
    (λ (l : k ≤ length a). rw (take-append-le k a) (f k))
    (λ (l : ¬ (k ≤ length a)).
    rw (take_past k a b (omega arith), run-append) (tidied-trans t (run t a) _ w (cuts-none t a f) (g (k - length a))))

pub step-cuts : (t : List ℕ) → Whole t → (p : ℕ → Bool) (n : ℕ) → n ≡ rooms t → Fine t p → Cuts t (clears p n)
step-cuts t w p n e f k = rw e (step-tidied t w p f _ (length_run t _) (cut-wipe t p k))

-- last, counts: every other byte stays
alike-tidied : (t s : List ℕ) → Whole t → length s ≡ length t → ((i : ℕ) → i < rooms t → Alike (rec t i) (rec s i)) → Tidied t s
alike-tidied t s w e each = record { less = record { long = e; each = λ i l. stays (each i l) }; last = last; texts = texts }
  where
    last : (h : ℕ) → byte (rec t h) 0 ≡ 1 → byte (rec s h) 0 ≢ 1 → named s h ≡ false
    last h k n =
        absurd (n (alike-kind (rec t h) (rec s h) (each h (within t h w (λ (y : byte (rec t h) 0 ≡ 0). omega arith))) ∙ k))

    texts : (h i : ℕ) → keeps_text (rec t h) ≡ true → byte (rec s h) 0 ≡ 1 → text_of h (rec t i) ≡ true → rec s i ≡ rec t i
    texts h i m z x =
        let y = text-of h (rec t i) x in
        alike_same (rec t i) (rec s i) (each i (within t i w (λ (v : byte (rec t i) 0 ≡ 0). omega (arith, y.0)))) (rw y.0)

pub counts-cuts : (t : List ℕ) → Whole t → Cuts t (recounts t)
counts-cuts t w k =
    alike-tidied t (run t (take k (recounts t))) w (length_run t _) (λ i l.
    ⊎_elim equal (λ a. a) (run-each (λ i r. Alike (rec t i) r) t (take k (recounts t)) (every_take _ k _ (counts-alike t)) i l))

-- such stores as a call makes them: "exactly the first k", or none where it is refused
pub run-tidied : (t : List ℕ) (ss : List Store) → Cuts t ss → (k : ℕ) (v : Verdict) → Tidied t (mend_run t k ss v).table
run-tidied t ss f k (refused r) = tidied-none t
run-tidied t ss f k passed = either (λ (o : Outcome). Tidied t o.table) (leb (length ss) k) _ _ (cuts-none t ss f) (f k)
