-- Entries in chains: a bucket is a linked list whose every link is the last entry of the bucket below it.
-- So the last entry that passes a test is found by walking the bucket down, when what passes is all in the bucket.
use mathlib.Core.Bool.{Bool, true, false, cond, true≢false}
use mathlib.Core.List.{List}
use mathlib.Core.Logic.{◌≢◌, by_cases}
use mathlib.Core.Path.{◌≡◌, refl, sym, ap, ◌∙◌}
use Prim.Native.Nat.{ℕ, ◌+◌, ◌-◌, ◌≤◌, ◌<◌}
use native.Mathlib.Omega.{arith}
use native.Mathlib.Decide.{ℕ_discrete}
use lib.ListN.{length, get_or, set, length-set}
use lib.Seq.{get_or-set_same, get_or-set_other}
use borrow.Author.Tests.{eqb-true, eq-eqb, ne_eqb}
use Rattle.judge_laws.specs.Chains.{in_bucket, last_in, Linked, Chains}
use Rattle.judge_laws.specs.Tally.{last_below}
use Rattle.paper.specs.Record.{is_kind}
use Rattle.paper.specs.Table.{rec}
use Rattle.judge_laws.proofs.Lasts.{last_more, last-most, last-here, last-last}
use Rattle.laws.proofs.Tests.{and_left, and_right}

-- what stands first in a bucket
pub last_entry : (f : List ℕ → ℕ) (t : List ℕ) (b n c : ℕ) → c ≡ last_in f t b n
    → (c ≤ n) × (0 < c → (is_kind 2 (rec t (c - 1)) ≡ true) × (f (rec t (c - 1)) ≡ b))
unfolding last_in
last_entry f t b n c e = (
  rw e (last-most (in_bucket f t b) n),
  λ l.
      let h : in_bucket f t b (c - 1) ≡ true = rw e (last-here (in_bucket f t b) n (rw e at l)) in
      (and_left (is_kind 2 (rec t (c - 1))) _ h, eqb-true _ _ (and_right (is_kind 2 (rec t (c - 1))) _ h)),
)

-- the walk through the bucket of entry i for what passes q has come to c: nothing past c passes, and c is none or one more than an entry of the bucket
pub record Walk (f : List ℕ → ℕ) (t : List ℕ) (q : ℕ → Bool) (i c : ℕ) : Type 0 where
  pub left : last_below q i ≡ last_below q c
  pub low : c ≤ i
  pub here : 0 < c → (is_kind 2 (rec t (c - 1)) ≡ true) × (f (rec t (c - 1)) ≡ f (rec t i))

-- what passes q is in the bucket of entry i
module _ (f : List ℕ → ℕ) (t : List ℕ) (q : ℕ → Bool) (i : ℕ) (s : (j : ℕ) → q j ≡ true → in_bucket f t (f (rec t i)) j ≡ true) where
  skip : (n : ℕ) → last_below q n ≡ last_below q (last_in f t (f (rec t i)) n)
  unfolding last_in
  skip n = last-last (in_bucket f t (f (rec t i))) q n s

  pub walk_start : (c : ℕ) → c ≡ last_in f t (f (rec t i)) i → Walk f t q i c
  walk_start c e =
      let z = last_entry f t (f (rec t i)) i c e in
      record { left = skip i ∙ ap (last_below q) (sym e); low = z.0; here = z.1 }

  pub walk_end : (c : ℕ) → Walk f t q i c → c ≤ 0 → last_below q i ≡ 0
  unfolding last_below
  walk_end c w l = let e : c ≡ 0 = omega arith in w.left ∙ rw e

  pub walk-found : (c : ℕ) → Walk f t q i c → 0 < c → q (c - 1) ≡ true → last_below q i ≡ c
  walk-found c w l e =
      let z : c ≡ (c - 1) + 1 = omega arith in
      w.left ∙ ap (last_below q) z ∙ last_more q (c - 1) ∙ rw e (sym z)

  pub walk-on : (next : List ℕ) (c c' : ℕ) → Walk f t q i c → 0 < c → q (c - 1) ≡ false
      → Linked f t next i → c' ≡ get_or next (c - 1) 0
      → Walk f t q i c' × (c' < c)
  walk-on next c c' w l n h e =
      let k = w.here l in
      let g : c' ≡ last_in f t (f (rec t (c - 1))) (c - 1) = e ∙ h.at (c - 1) (omega (arith, w.low)) k.0 in
      let g' : c' ≡ last_in f t (f (rec t i)) (c - 1) = g ∙ ap (λ b. last_in f t b (c - 1)) k.1 in
      let y = last_entry f t (f (rec t (c - 1))) (c - 1) c' g in
      let z : c ≡ (c - 1) + 1 = omega arith in (
        record {
          left = w.left ∙ ap (last_below q) z ∙ last_more q (c - 1) ∙ rw n (skip (c - 1) ∙ ap (last_below q) (sym g'));
          low = omega (arith, y.0, w.low);
          here = λ m. ((y.1 m).0, (y.1 m).1 ∙ k.1);
        },
        omega (arith, y.0),
      )

-- before the first entry
pub chains-none : (f : List ℕ → ℕ) (t head next : List ℕ) → length head ≡ 2048 → length next ≡ 2048
    → ((s : ℕ) → s < 2048 → get_or head s 0 ≡ 0) → Chains f t head next 0
unfolding last_in last_below
chains-none f t head next a b z =
    record {
      heads = λ s l. z s l;
      nexts = record { at = λ j l. let y : ⊥ = omega arith in absurd y; long = b };
      long = a;
    }

last-in-more : (f : List ℕ → ℕ) (t : List ℕ) (b i : ℕ) → last_in f t b (i + 1) ≡ cond (in_bucket f t b i) (i + 1) (last_in f t b i)
unfolding last_in
last-in-more f t b i = last_more (in_bucket f t b) i

module _ (f : List ℕ → ℕ) (t head next : List ℕ) (i : ℕ) (c : Chains f t head next i) where
  -- no entry: the chains stay
  pub chains-other : is_kind 2 (rec t i) ≡ false → Chains f t head next (i + 1)
  chains-other k =
      record {
        heads = λ b l. c.heads b l ∙ sym (last-in-more f t b i ∙ rw k);
        nexts = record {
          at = λ j l e. by_cases (ℕ_discrete j i) (λ (q : j ≡ i). absurd (true≢false (sym e ∙ rw q k))) (λ (q : j ≢ i). c.nexts.at j (omega arith) e);
          long = c.nexts.long;
        };
        long = c.long;
      }

  -- an entry is put in front of its bucket
  pub chains-entry : f (rec t i) < 2048 → i < 2048 → is_kind 2 (rec t i) ≡ true
      → Chains f t (set head (f (rec t i)) (i + 1)) (set next i (get_or head (f (rec t i)) 0)) (i + 1)
  chains-entry low l k =
      record {
        heads = λ b m. at b m (ℕ_discrete b h);
        nexts = record { at = λ j m e. old j m e (ℕ_discrete j i); long = length-set next i (get_or head h 0) ∙ c.nexts.long };
        long = length-set head h (i + 1) ∙ c.long;
      }
    where
      h : ℕ
      h = f (rec t i)

      at : (b : ℕ) → b < 2048 → Dec (b ≡ h) → get_or (set head h (i + 1)) b 0 ≡ last_in f t b (i + 1)
      at b m d =
          by_cases d
          (λ (q : b ≡ h). rw q (get_or-set_same head h (i + 1) 0 (omega (arith, c.long, low)) ∙ sym (last-in-more f t h i ∙ rw (k, eq-eqb h h refl))))
          (λ (q : b ≢ h). get_or-set_other head h b (i + 1) 0 q ∙ c.heads b m ∙ sym (last-in-more f t b i ∙ rw (k, ne_eqb h b (λ x. q (sym x)))))

      old : (j : ℕ) → j < i + 1 → is_kind 2 (rec t j) ≡ true → Dec (j ≡ i) → get_or (set next i (get_or head h 0)) j 0 ≡ last_in f t (f (rec t j)) j
      old j m e d =
          by_cases d
          (λ (q : j ≡ i). rw q (get_or-set_same next i (get_or head h 0) 0 (omega (arith, c.nexts.long)) ∙ c.heads h (low)))
          (λ (q : j ≢ i). get_or-set_other next i j (get_or head h 0) 0 q ∙ c.nexts.at j (omega arith) e)
