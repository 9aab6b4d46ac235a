-- Records cleared: what is not gone stays, so a table keeps its soundness where nothing that stays needs a record that is gone.
-- No record needs an entry but the heading that it names, so an entry cleared leaves all sound but for that heading.
use mathlib.Core.Bool.{Bool, true, false, ◌||◌, cond}
use mathlib.Core.List.{List}
use mathlib.Core.Logic.{◌⊎◌, inl, inr, ◌≢◌, by_cases}
use mathlib.Core.Path.{◌≡◌, refl, sym, ◌∙◌}
use Prim.Native.Nat.{ℕ, suc, ◌≤◌, ◌<◌}
use native.Mathlib.Omega.{arith}
use native.Mathlib.Decide.{ℕ_discrete, dec_lt}
use lib.ListN.{length}
use lib.Dec.{eqb}
use borrow.Author.Tests.{eq-eqb, ne_eqb}
use Rattle.paper.specs.Scan.{all_below, count_below}
use Rattle.paper.specs.Record.{byte, heading_type, text_length, directory, holder_of, heading_named, names, heading_of, text_at, zeros, blank}
use Rattle.paper.specs.Layout.{name_of, boxed}
use Rattle.paper.specs.Table.{rooms, rec, lay}
use Rattle.paper.specs.Entry.{Holder, holder, stands, bears, crowd, limit, named}
use Rattle.paper.specs.Block.{blocks}
use Rattle.paper.specs.Sound.{is_base, holder_there, text_in_place}
use Rattle.laws.proofs.Tests.{not-both, or_cases, or_left, or_right, false-by}
use Rattle.laws.proofs.Scans.{any-true, any_here}
use Rattle.laws.proofs.Counts.{count-cong, count-mono}
use Rattle.laws.proofs.Entries.{stands-true, bears-stands, names-heading, typed-kind, text-true}
use Rattle.laws.proofs.Lay.{Whole, rec-past, lay-same, lay-other, length-lay, length-blank, kinds-apart}
use Rattle.demands.proofs.Sound.Clauses.{Own, SoundBut, Sound}
use Rattle.demands.proofs.Sound.Points.{text-points}

pub own-blank : Own blank
unfolding blank zeros all_below
own-blank =
    record {
      kinds = omega arith;
      free = λ _. refl;
      heading = λ (z : ◌≡◌ {A = ℕ} 0 1). let y : ⊥ = omega arith in absurd y;
      entry = λ (z : ◌≡◌ {A = ℕ} 0 2). let y : ⊥ = omega arith in absurd y;
      text = λ (z : ◌≡◌ {A = ℕ} 0 3). let y : ⊥ = omega arith in absurd y;
    }

-- f is t with the records cleared that are gone
pub record Cleared (gone : ℕ → Bool) (t f : List ℕ) : Type 0 where
  pub long : length f ≡ length t
  pub each : (i : ℕ) → i < rooms t → rec f i ≡ cond (gone i) blank (rec t i)

-- nothing that stays needs what is gone, but that heading o may lose its name
pub record Spared (o : ℕ) (gone : ℕ → Bool) (t : List ℕ) : Type 0 where
  pub holders : (i : ℕ) → i < rooms t → gone i ≡ false → byte (rec t i) 0 ≡ 2 → directory (rec t (holder_of (rec t i))) ≡ true
      → gone (holder_of (rec t i)) ≡ false
  pub targets : (i : ℕ) → i < rooms t → gone i ≡ false → byte (rec t i) 0 ≡ 2 → gone (heading_named (rec t i)) ≡ false
  pub named : (i : ℕ) → i < rooms t → gone i ≡ false → byte (rec t i) 0 ≡ 1
      → ((j : ℕ) × (j < rooms t) × (gone j ≡ false) × (names i (rec t j) ≡ true)) ⊎ (i ≡ o)
  pub texts : (i : ℕ) → i < rooms t → byte (rec t i) 0 ≡ 3 → gone i ≡ gone (heading_of (rec t i))

module _ (gone : ℕ → Bool) (t f : List ℕ) (w : Whole t) (d : Cleared gone t f) where
  -- what is not gone stays
  stays : (i : ℕ) → gone i ≡ false → rec f i ≡ rec t i
  stays i g =
      by_cases (dec_lt i (rooms t))
      (λ (l : i < rooms t). d.each i l ∙ rw g)
      (λ (l : ¬ (i < rooms t)). rw (rec-past t i w (omega arith), rec-past f i (rw d.long w) (rw d.long (omega arith))))

  -- what holds something is not gone
  lives : (k i : ℕ) → i < rooms t → byte (rec f i) 0 ≡ suc k → gone i ≡ false
  unfolding blank
  lives k i l e = go (gone i) refl (d.each i l)
    where
      go : (b : Bool) → gone i ≡ b → rec f i ≡ cond b blank (rec t i) → gone i ≡ false
      go false g x = g
      go true g x = let z : 0 ≡ suc k = rw x at e in let y : ⊥ = omega arith in absurd y

  -- and was so before
  was : (k i : ℕ) → i < rooms t → byte (rec f i) 0 ≡ suc k → rec f i ≡ rec t i
  was k i l e = stays i (lives k i l e)

module _ (o p : ℕ) (gone : ℕ → Bool) (t f : List ℕ) (c : SoundBut o t) (d : Cleared gone t f) (s : Spared p gone t) where
  own-f : (i : ℕ) → i < rooms t → Own (rec f i)
  own-f i l = go (gone i) (d.each i l)
    where
      go : (b : Bool) → rec f i ≡ cond b blank (rec t i) → Own (rec f i)
      go true x = rw x own-blank
      go false x = rw x (c.own i l)

  holders-f : (i : ℕ) → i < rooms t → byte (rec f i) 0 ≡ 2 → holder_there f i (rec f i) ≡ true
  holders-f i l k =
      let g = lives gone t f c.whole d 1 i l k in
      rw (stays gone t f c.whole d i g) (go g (rw (stays gone t f c.whole d i g) at k))
    where
      go : gone i ≡ false → byte (rec t i) 0 ≡ 2 → (is_base (rec t i) || directory (rec f (holder_of (rec t i)))) ≡ true
      go g m = there (or_cases (is_base (rec t i)) (directory (rec t (holder_of (rec t i)))) (c.holders i l m))
        where
          there : (is_base (rec t i) ≡ true) ⊎ (directory (rec t (holder_of (rec t i))) ≡ true)
              → (is_base (rec t i) || directory (rec f (holder_of (rec t i)))) ≡ true
          there (inl e) = or_left _ _ e
          there (inr e) = or_right (is_base (rec t i)) _ (rw (stays gone t f c.whole d (holder_of (rec t i)) (s.holders i l g m e)) e)

  targets-f : (i : ℕ) → i < rooms t → byte (rec f i) 0 ≡ 2 → byte (rec f (heading_named (rec f i))) 0 ≡ 1
  targets-f i l k =
      let g = lives gone t f c.whole d 1 i l k in
      let e = stays gone t f c.whole d i g in
      let m : byte (rec t i) 0 ≡ 2 = rw e at k in
      rw (e, stays gone t f c.whole d (heading_named (rec t i)) (s.targets i l g m)) (c.targets i l m)

  apart-f : (i j : ℕ) → i < rooms t → j < rooms t → byte (rec f i) 0 ≡ 2 → bears boxed (holder (rec f i)) (name_of boxed (rec f i)) (rec f j) ≡ true → i ≡ j
  apart-f i j l m k b =
      let e = was gone t f c.whole d 1 i l k in
      let q = was gone t f c.whole d 1 j m (bears-stands (holder (rec f i)) (name_of boxed (rec f i)) (rec f j) b).kind in
      c.apart i j l m (rw e at k) (rw (e, q) at b)

  named-f : (i : ℕ) → i < rooms t → byte (rec f i) 0 ≡ 1 → (named f i ≡ true) ⊎ (i ≡ p)
  unfolding named
  named-f i l k =
      let g = lives gone t f c.whole d 0 i l k in
      go (s.named i l g (rw (stays gone t f c.whole d i g) at k))
    where
      go : ((j : ℕ) × (j < rooms t) × (gone j ≡ false) × (names i (rec t j) ≡ true)) ⊎ (i ≡ p) → (named f i ≡ true) ⊎ (i ≡ p)
      go (inr e) = inr e
      go (inl (j, b, g, n)) =
          inl (any_here (λ j. names i (rec f j)) (rooms f) j (rw d.long b) (rw (stays gone t f c.whole d j g) n))

  crowds-f : (h : Holder) → crowd f h ≤ limit h
  unfolding crowd
  crowds-f h = omega (arith, c.crowds h, fewer)
    where
      fewer : crowd f h ≤ crowd t h
      fewer =
          rw d.long (count-mono (λ i. stands h (rec f i)) (λ i. stands h (rec t i)) (rooms t)
          (λ i l e. rw (was gone t f c.whole d 1 i l (stands-true h (rec f i) e).kind) at e))

  once-f : (h n : ℕ) → h < rooms t → byte (rec f h) 0 ≡ 1 → heading_type (rec f h) ≡ 1 → n < blocks (text_length (rec f h))
      → count_below (λ i. text_at h n (rec f i)) (rooms f) ≡ 1
  unfolding blank
  once-f h n l k y b =
      let g = lives gone t f c.whole d 0 h l k in
      let e = stays gone t f c.whole d h g in
      rw d.long
      (count-cong (λ i. text_at h n (rec f i)) (λ i. text_at h n (rec t i)) (rooms t) (same g)
      ∙ c.once h n l (rw e at k) (rw e at y) (rw e at b))
    where
      same : gone h ≡ false → (i : ℕ) → i < rooms t → text_at h n (rec f i) ≡ text_at h n (rec t i)
      same g i m = go (gone i) refl (d.each i m)
        where
          go : (a : Bool) → gone i ≡ a → rec f i ≡ cond a blank (rec t i) → text_at h n (rec f i) ≡ text_at h n (rec t i)
          go false z x = rw x
          go true z x =
              rw x (sym (false-by (text_at h n (rec t i)) (λ v.
              let u = text-true h n (rec t i) v in
              not-both (sym (s.texts i m u.kind) ∙ z) (rw u.heading g))))

  texts-f : (i : ℕ) → i < rooms t → byte (rec f i) 0 ≡ 3 → text_in_place f i (rec f i) ≡ true
  texts-f i l k =
      let g = lives gone t f c.whole d 2 i l k in
      let e = stays gone t f c.whole d i g in
      let m : byte (rec t i) 0 ≡ 3 = rw e at k in
      rw (e, stays gone t f c.whole d (heading_of (rec t i)) (sym (s.texts i l m) ∙ g)) (c.texts i l m)

  pub cleared-sound : SoundBut p f
  cleared-sound =
      let r : rooms f ≡ rooms t = rw d.long in
      record {
        whole = rw d.long c.whole;
        few = rw d.long c.few;
        own = λ i l. own-f i (rw r at l);
        holders = λ i l. holders-f i (rw r at l);
        targets = λ i l. targets-f i (rw r at l);
        apart = λ i j l m. apart-f i j (rw r at l) (rw r at m);
        named = λ i l. named-f i (rw r at l);
        crowds = crowds-f;
        once = λ h n l. once-f h n (rw r at l);
        texts = λ i l. texts-f i (rw r at l);
      }

-- ---- one entry

module _ (t : List ℕ) (e : ℕ) (c : Sound t) (l : e < rooms t) (k : byte (rec t e) 0 ≡ 2) where
  one-cleared : Cleared (λ i. eqb i e) t (lay t e blank)
  one-cleared = record { long = length-lay t e blank; each = at }
    where
      at : (i : ℕ) → i < rooms t → rec (lay t e blank) i ≡ cond (eqb i e) blank (rec t i)
      at i m =
          by_cases (ℕ_discrete i e)
          (λ (q : i ≡ e). rw (q, eq-eqb e e refl) (lay-same t e blank length-blank l))
          (λ (q : i ≢ e). rw (ne_eqb i e q) (lay-other t e blank i length-blank q m))

  one-spared : Spared (heading_named (rec t e)) (λ i. eqb i e) t
  unfolding named
  one-spared =
      record {
        holders = λ i m g y h. no-entry (holder_of (rec t i)) 1 (omega arith) (typed-kind 0 (rec t (holder_of (rec t i))) h);
        targets = λ i m g y. no-entry (heading_named (rec t i)) 1 (omega arith) (c.targets i m y);
        named = λ i m g y. by m (c.named i m y);
        texts = λ i m y.
            no-entry i 3 (omega arith) y
            ∙ sym (no-entry (heading_of (rec t i)) 1 (omega arith) (text-points 65535 t c i m y));
      }
    where
      no-entry : (i n : ℕ) → n ≢ 2 → byte (rec t i) 0 ≡ n → eqb i e ≡ false
      no-entry i n d y = ne_eqb i e (kinds-apart t i e n 2 y k d)

      by : {i : ℕ} → i < rooms t → (named t i ≡ true) ⊎ (i ≡ 65535)
          → ((j : ℕ) × (j < rooms t) × (eqb j e ≡ false) × (names i (rec t j) ≡ true)) ⊎ (i ≡ heading_named (rec t e))
      by {i} m (inr z) = let y : ⊥ = omega (arith, c.few) in absurd y
      by {i} m (inl z) =
          let w = any-true (λ j. names i (rec t j)) (rooms t) z in
          by_cases (ℕ_discrete w.0 e)
          (λ (q : w.0 ≡ e). inr (sym (names-heading i (rec t e) (rw q at w.2))))
          (λ (q : w.0 ≢ e). inl (w.0, w.1, ne_eqb w.0 e q, w.2))

  -- an entry cleared: all is sound, but the heading that it named may now be named by no entry
  pub entry-cleared : SoundBut (heading_named (rec t e)) (lay t e blank)
  entry-cleared = cleared-sound 65535 (heading_named (rec t e)) (λ i. eqb i e) t (lay t e blank) c one-cleared one-spared
