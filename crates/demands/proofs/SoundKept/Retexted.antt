-- A file's text exchanged for another: its heading keeps its type, and else only free records and its own text change. No other record
-- goes by those, so each clause about the others stays, and what the file owes is what the new text owes.
use mathlib.Core.Bool.{Bool, true, false}
use mathlib.Core.List.{List}
use mathlib.Core.Logic.{◌⊎◌, inl, inr, ◌≢◌, by_cases}
use mathlib.Core.Path.{◌≡◌, sym, ◌∙◌}
use Prim.Native.Nat.{ℕ, ◌≤◌, ◌<◌}
use native.Mathlib.Omega.{arith}
use native.Mathlib.Decide.{ℕ_discrete, dec_lt}
use lib.ListN.{length}
use borrow.Author.Tests.{eqb-true, eq-eqb, ne_eqb}
use Rattle.paper.specs.Scan.{count_below}
use Rattle.paper.specs.Record.{byte, is_kind, heading_type, text_length, holder_of, heading_named, names, heading_of, text_at, blank}
use Rattle.paper.specs.Layout.{name_of, boxed}
use Rattle.paper.specs.Table.{rooms, rec}
use Rattle.paper.specs.Entry.{Holder, holder, stands, bears, crowd, limit, named}
use Rattle.paper.specs.Block.{blocks}
use Rattle.paper.specs.Sound.{holder_there, in_place, text_in_place}
use Rattle.laws.proofs.Scans.{any-cong}
use Rattle.laws.proofs.Counts.{count-cong}
use Rattle.laws.proofs.Tests.{false-by}
use Rattle.laws.proofs.Entries.{bears-stands, stands-true, names-kind, typed, typed-kind, text-true}
use Rattle.laws.proofs.Lay.{rec-past, kind-blank}
use Rattle.demands.proofs.Sound.Clauses.{Own, Sound}
use Rattle.demands.proofs.Sound.Points.{text-points}

-- a free record, or text of heading h
pub data Mine (h : ℕ) (r : List ℕ) : Type 0 where
  none : r ≡ blank → Mine h r
  some : byte r 0 ≡ 3 → heading_of r ≡ h → Mine h r

-- f is t with another text of heading h
pub record Retexted (t f : List ℕ) (h : ℕ) : Type 0 where
  pub long : length f ≡ length t
  pub heading : byte (rec t h) 0 ≡ 1
  pub again : byte (rec f h) 0 ≡ 1
  pub type : heading_type (rec f h) ≡ heading_type (rec t h)
  pub each : (i : ℕ) → i < rooms t → i ≢ h → (rec f i ≡ rec t i) ⊎ (Mine h (rec t i) × Mine h (rec f i))
  pub own : (i : ℕ) → i < rooms t → Own (rec f i)
  pub once : (p : ℕ) → p < blocks (text_length (rec f h)) → count_below (λ i. text_at h p (rec f i)) (rooms t) ≡ 1
  pub texts : (i : ℕ) → i < rooms t → byte (rec f i) 0 ≡ 3 → heading_of (rec f i) ≡ h → in_place (rec f h) (rec f i) ≡ true

-- what is free or text is of no other kind
mine-kind : (h : ℕ) (r : List ℕ) → Mine h r → (byte r 0 ≡ 0) ⊎ (byte r 0 ≡ 3)
mine-kind h r (none e) = inl (kind-blank r e)
mine-kind h r (some k e) = inr k

pub mine-not : (h : ℕ) (r : List ℕ) (n : ℕ) → Mine h r → n ≢ 0 → n ≢ 3 → byte r 0 ≢ n
mine-not h r n m a b e = go (mine-kind h r m)
  where
    go : (byte r 0 ≡ 0) ⊎ (byte r 0 ≡ 3) → ⊥
    go (inl k) = a (sym e ∙ k)
    go (inr k) = b (sym e ∙ k)

module _ (t f : List ℕ) (h : ℕ) (c : Sound t) (d : Retexted t f h) where
  pub data Seen (i : ℕ) : Type 0 where
    same : rec f i ≡ rec t i → Seen i
    head : i ≡ h → Seen i
    mine : Mine h (rec t i) → Mine h (rec f i) → Seen i

  pub seen : (i : ℕ) → Seen i
  seen i =
      by_cases (dec_lt i (rooms t))
      (λ (l : i < rooms t). by_cases (ℕ_discrete i h) (λ (e : i ≡ h). head e) (λ (e : i ≢ h). go (d.each i l e)))
      (λ (l : ¬ (i < rooms t)). same (rec-past f i (rw d.long c.whole) (rw d.long (omega arith)) ∙ sym (rec-past t i c.whole (omega arith))))
    where
      go : (rec f i ≡ rec t i) ⊎ (Mine h (rec t i) × Mine h (rec f i)) → Seen i
      go (inl e) = same e
      go (inr m) = mine m.0 m.1

  -- a test that no free record and no text of h passes, and that both headings pass or both do not
  agrees : (q : List ℕ → Bool) → ((r : List ℕ) → Mine h r → q r ≡ false) → q (rec f h) ≡ q (rec t h) → (i : ℕ) → q (rec f i) ≡ q (rec t i)
  agrees q z k i = go (seen i)
    where
      go : Seen i → q (rec f i) ≡ q (rec t i)
      go (same e) = rw e
      go (head e) = rw e k
      go (mine a b) = z (rec f i) b ∙ sym (z (rec t i) a)

  -- so for a test of entries, and for one of headings
  pub of-entries : (q : List ℕ → Bool) → ((r : List ℕ) → q r ≡ true → byte r 0 ≡ 2) → (i : ℕ) → q (rec f i) ≡ q (rec t i)
  of-entries q k =
      agrees q (λ r m. false-by (q r) (λ e. mine-not h r 2 m (omega arith) (omega arith) (k r e)))
      (false-by (q (rec f h)) (λ e. omega (arith, k (rec f h) e, d.again)) ∙ sym (false-by (q (rec t h)) (λ e. omega (arith, k (rec t h) e, d.heading))))

  pub of-type : (n i : ℕ) → typed n (rec f i) ≡ typed n (rec t i)
  of-type n =
      agrees (typed n) (λ r m. false-by (typed n r) (λ e. mine-not h r 1 m (omega arith) (omega arith) (typed-kind n r e)))
      (rw (d.heading, d.again, d.type))

  heading-too : (i : ℕ) → byte (rec t i) 0 ≡ 1 → byte (rec f i) 0 ≡ 1
  heading-too i k =
      eqb-true _ _ (agrees (is_kind 1) (λ r m. ne_eqb _ _ (mine-not h r 1 m (omega arith) (omega arith))) (rw (d.heading, d.again)) i ∙ eq-eqb _ _ k)

  -- a record that is neither h nor text of h is as it was
  kept : (i n : ℕ) → byte (rec f i) 0 ≡ n → n ≢ 0 → i ≢ h → (n ≡ 3 → heading_of (rec f i) ≢ h) → rec f i ≡ rec t i
  kept i n k z o b = go (seen i)
    where
      go : Seen i → rec f i ≡ rec t i
      go (same e) = e
      go (head e) = absurd (o e)
      go (mine x (none e)) = absurd (z (sym k ∙ kind-blank (rec f i) e))
      go (mine x (some a e)) = absurd (b (sym k ∙ a) e)

  entry_kept : (i : ℕ) → byte (rec f i) 0 ≡ 2 → rec f i ≡ rec t i
  entry_kept i k =
      kept i 2 k (omega arith) (λ e. let g : byte (rec f h) 0 ≡ 2 = rw e at k in omega (arith, d.again))
      (λ (z : ◌≡◌ {A = ℕ} 2 3). let y : ⊥ = omega arith in absurd y)

  heading-kept : (i : ℕ) → i ≢ h → byte (rec f i) 0 ≡ 1 → rec f i ≡ rec t i
  heading-kept i o k = kept i 1 k (omega arith) o (λ (z : ◌≡◌ {A = ℕ} 1 3). let y : ⊥ = omega arith in absurd y)

  -- ---- the clauses

  holders-f : (i : ℕ) → i < rooms t → byte (rec f i) 0 ≡ 2 → holder_there f i (rec f i) ≡ true
  holders-f i l k =
      let e = entry_kept i k in
      rw (e, of-type 0 (holder_of (rec t i))) (c.holders i l (rw e at k))

  targets-f : (i : ℕ) → i < rooms t → byte (rec f i) 0 ≡ 2 → byte (rec f (heading_named (rec f i))) 0 ≡ 1
  targets-f i l k =
      let e = entry_kept i k in
      rw e (heading-too (heading_named (rec t i)) (c.targets i l (rw e at k)))

  apart-f : (i j : ℕ) → i < rooms t → j < rooms t → byte (rec f i) 0 ≡ 2 → bears boxed (holder (rec f i)) (name_of boxed (rec f i)) (rec f j) ≡ true → i ≡ j
  apart-f i j l m k b =
      let e = entry_kept i k in
      let q = entry_kept j (bears-stands (holder (rec f i)) (name_of boxed (rec f i)) (rec f j) b).kind in
      c.apart i j l m (rw e at k) (rw (e, q) at b)

  pub named-same : (i : ℕ) → named f i ≡ named t i
  unfolding named
  named-same i = rw d.long (any-cong (λ j. names i (rec f j)) (λ j. names i (rec t j)) (rooms t) (λ j _. of-entries (names i) (names-kind i) j))

  named-f : (i : ℕ) → i < rooms t → byte (rec f i) 0 ≡ 1 → (named f i ≡ true) ⊎ (i ≡ 65535)
  named-f i l k = rw (named-same i) (c.named i l was)
    where
      was : byte (rec t i) 0 ≡ 1
      was = by_cases (ℕ_discrete i h) (λ (e : i ≡ h). rw e d.heading) (λ (e : i ≢ h). rw (heading-kept i e k) at k)

  crowds-f : (x : Holder) → crowd f x ≤ limit x
  unfolding crowd
  crowds-f x =
      rw (d.long, count-cong (λ i. stands x (rec f i)) (λ i. stands x (rec t i)) (rooms t) (λ i _. of-entries (stands x) (λ r e. (stands-true x r e).kind) i))
      (c.crowds x)

  once-f : (g p : ℕ) → g < rooms t → byte (rec f g) 0 ≡ 1 → heading_type (rec f g) ≡ 1 → p < blocks (text_length (rec f g))
      → count_below (λ i. text_at g p (rec f i)) (rooms f) ≡ 1
  once-f g p l k y b =
      rw d.long
      (by_cases (ℕ_discrete g h) (λ (e : g ≡ h). rw e (d.once p (rw e at b)))
      (λ (o : g ≢ h).
      let e = heading-kept g o k in
      count-cong (λ i. text_at g p (rec f i)) (λ i. text_at g p (rec t i)) (rooms t) (λ i _. others o i)
      ∙ c.once g p l (rw e at k) (rw e at y) (rw e at b)))
    where
      others : g ≢ h → (i : ℕ) → text_at g p (rec f i) ≡ text_at g p (rec t i)
      others o = agrees (text_at g p) (λ r m. false-by (text_at g p r) (λ e. off r m e)) (rw (d.heading, d.again))
        where
          off : (r : List ℕ) → Mine h r → text_at g p r ≡ true → ⊥
          off r (none z) e = omega (arith, (text-true g p r e).kind, kind-blank r z)
          off r (some a z) e = o (sym (text-true g p r e).heading ∙ z)

  texts-f : (i : ℕ) → i < rooms t → byte (rec f i) 0 ≡ 3 → text_in_place f i (rec f i) ≡ true
  texts-f i l k =
      by_cases (ℕ_discrete (heading_of (rec f i)) h)
      (λ (e : heading_of (rec f i) ≡ h). rw e (d.texts i l k e))
      (λ (o : heading_of (rec f i) ≢ h).
      let e : rec f i ≡ rec t i =
      kept i 3 k (omega arith) (λ q. let g : byte (rec f h) 0 ≡ 3 = rw q at k in omega (arith, d.again)) (λ _. o) in
      let m : byte (rec t i) 0 ≡ 3 = rw e at k in
      let g = heading-kept (heading_of (rec t i)) (rw e at o) (heading-too (heading_of (rec t i)) (text-points 65535 t c i l m)) in
      rw (e, g) (c.texts i l m))

  pub retexted-sound : Sound f
  retexted-sound =
      let r : rooms f ≡ rooms t = rw d.long in
      record {
        whole = rw d.long c.whole;
        few = rw d.long c.few;
        own = λ i l. d.own i (rw r at l);
        holders = λ i l. holders-f i (rw r at l);
        targets = λ i l. targets-f i (rw r at l);
        apart = λ i j l m. apart-f i j (rw r at l) (rw r at m);
        named = λ i l. named-f i (rw r at l);
        crowds = crowds-f;
        once = λ g p l. once-f g p (rw r at l);
        texts = λ i l. texts-f i (rw r at l);
      }
