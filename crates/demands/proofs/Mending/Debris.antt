-- Mending takes away what a cut request left, and nothing else. One round finds the entries, the headings and the text of the debris, so it
-- leaves of s no more than f: f stands between s and what the rounds leave of s, and both mend to the same table.
use mathlib.Core.Bool.{Bool, true, false, ◌&&◌, ◌||◌, not}
use mathlib.Core.List.{List, []}
use mathlib.Core.Logic.{◌⊎◌, inl, inr, by_cases}
use mathlib.Core.Path.{◌≡◌, refl, sym, ◌∙◌}
use Prim.Native.Nat.{ℕ, ◌<◌}
use native.Mathlib.Omega.{arith}
use native.Mathlib.Decide.{dec_lt}
use lib.ListN.{length}
use borrow.Author.Tests.{eqb-true, ltb-true}
use Rattle.paper.specs.Record.{byte, is_kind, marked, text_length, directory, simple, holder_of, names, heading_named, heading_of, position, blank}
use Rattle.paper.specs.Table.{rooms, rec}
use Rattle.paper.specs.Entry.{named}
use Rattle.paper.specs.Block.{blocks}
use Rattle.paper.specs.Store.{run}
use Rattle.paper.specs.Count.{recounts}
use Rattle.paper.specs.Sound.{is_base, text_in_place}
use Rattle.paper.specs.Mend.{anchored, adrift, keeps_text, orphan, stray, after₁, after₂, round_stores, round, cleared, mend_stores, mended}
use Rattle.laws.proofs.Tests.{and_left, and_right, and_both, and-no-left, or_cases, or_left, or_right, not-both, false-by}
use Rattle.laws.proofs.Scans.{any-true}
use Rattle.laws.proofs.Entries.{names-kind, names-heading}
use Rattle.laws.proofs.Lay.{Whole, rec-past, within}
use Rattle.laws.proofs.Recounts.{recounts-none}
use Rattle.demands.proofs.Sound.Clauses.{Sound, heading-marked, named_by}
use Rattle.demands.proofs.Sound.Right.{Right}
use Rattle.demands.proofs.Sound.Points.{text-points}
use Rattle.demands.proofs.Mending.Wipe.{rec-wiped, round_is}
use Rattle.demands.proofs.Mending.Part.{Alike, heading, text, entry, Part, own, loose, Parts, Kept, Below, free, stays, Less}
use Rattle.demands.proofs.Mending.Counts.{alike-sym, alike-kind, alike_same, alike-names, counts-at}
use Rattle.demands.proofs.Mending.Less.{below-trans, less-refl, less-trans, less_both, less-free, up-keeps, up_named, adrift-still, orphan-still, stray-still, less₁, less₂, less₁₂, less₃, round-less, round_mono}
use Rattle.demands.proofs.Mending.Settled.{still-round, still-stores, still}
use Rattle.demands.proofs.Mending.Squeeze.{quiet, round-cleared, squeeze}

-- a free record keeps no text
pub keeps-none : keeps_text blank ≡ false
unfolding blank keeps_text
keeps-none = refl

-- ---- a table that keeps the clauses has nothing to mend

module _ (t : List ℕ) (anchored-all : (i : ℕ) → i < rooms t → byte (rec t i) 0 ≡ 2 → anchored t (rec t i) ≡ true)
    (named-all : (i : ℕ) → i < rooms t → byte (rec t i) 0 ≡ 1 → named t i ≡ true)
    (kept-all : (i : ℕ) → i < rooms t → byte (rec t i) 0 ≡ 3 → keeps_text (rec t (heading_of (rec t i))) ≡ true) where
  no-adrift : (i : ℕ) → i < rooms t → adrift t i ≡ false
  no-adrift i l = go (is_kind 2 (rec t i)) refl
    where
      go : (b : Bool) → is_kind 2 (rec t i) ≡ b → (b && not (anchored t (rec t i))) ≡ false
      go true e = rw (anchored-all i l (eqb-true _ _ e))
      go false e = refl

  no-orphan : (i : ℕ) → i < rooms t → orphan t i ≡ false
  no-orphan i l = go (is_kind 1 (rec t i)) refl
    where
      go : (b : Bool) → is_kind 1 (rec t i) ≡ b → (b && not (named t i)) ≡ false
      go true e = rw (named-all i l (eqb-true _ _ e))
      go false e = refl

  no_stray : (i : ℕ) → i < rooms t → stray t i ≡ false
  no_stray i l = go (is_kind 3 (rec t i)) refl
    where
      go : (b : Bool) → is_kind 3 (rec t i) ≡ b → (b && not (keeps_text (rec t (heading_of (rec t i))))) ≡ false
      go true e = rw (kept-all i l (eqb-true _ _ e))
      go false e = refl

  -- nothing to clear: the counts are all there is
  nothing-to-clear : round_stores t ≡ []
  nothing-to-clear = quiet t no-adrift no-orphan no_stray

  only-counts : mend_stores t ≡ recounts t
  unfolding mend_stores
  only-counts = rw (still-stores t nothing-to-clear, still t nothing-to-clear)

pub nothing-to-mend : (t : List ℕ) → Kept t → mend_stores t ≡ []
nothing-to-mend t k = only-counts t k.entries k.headings k.texts ∙ recounts-none t k.counts

-- one round is enough
abbrev pub Once : List ℕ → Type 0
Once x = round_stores (round x) ≡ []

pub kept-once : (t : List ℕ) → Kept t → Once t
kept-once t k = let e = nothing-to-clear t k.entries k.headings k.texts in rw (still-round t e) e

pub mended-kept : (t : List ℕ) → Kept t → mended t ≡ t
unfolding mended run
mended-kept t k = rw (nothing-to-mend t k)

-- as a sound table does: a marked file has no text
keeps-by : (t : List ℕ) → Sound t → (i : ℕ) → i < rooms t → byte (rec t i) 0 ≡ 3 → keeps_text (rec t (heading_of (rec t i))) ≡ true
unfolding keeps_text
keeps-by t c i l k =
    let e : text_in_place t i (rec t i) ≡ true = c.texts i l k in
    let s : simple h ≡ true = and_left _ _ e in
    let b : position (rec t i) < blocks (text_length h) = ltb-true _ _ (and_left _ _ (and_right (simple h) _ e)) in
    and_both (simple h) _ s (rw (unmarked b))
  where
    h : List ℕ
    h = rec t (heading_of (rec t i))

    unmarked : position (rec t i) < blocks (text_length h) → marked h ≡ false
    unmarked b =
        false-by (marked h) (λ m.
        let g = text-points 65535 t c i l k in
        let n : text_length h ≡ 0 =
        (heading-marked h ((c.own (heading_of (rec t i)) (within t (heading_of (rec t i)) c.whole (omega arith))).heading g) (eqb-true _ _ m)).length in
        omega arith)

anchored-by : (t : List ℕ) → Sound t → (i : ℕ) → i < rooms t → byte (rec t i) 0 ≡ 2 → anchored t (rec t i) ≡ true
unfolding anchored
anchored-by t c i l k = rw (c.targets i l k) (go (or_cases (is_base (rec t i)) _ (c.holders i l k)))
  where
    go : (is_base (rec t i) ≡ true) ⊎ (directory (rec t (holder_of (rec t i))) ≡ true) → (is_base (rec t i) || is_kind 1 (rec t (holder_of (rec t i)))) ≡ true
    go (inl b) = or_left (is_base (rec t i)) _ b
    go (inr d) = or_right (is_base (rec t i)) _ (and_left (is_kind 1 (rec t (holder_of (rec t i)))) _ d)

pub sound-keeps : (t : List ℕ) → Right t → Kept t
sound-keeps t c =
    record {
      headings = named_by t c.clauses;
      entries = anchored-by t c.clauses;
      texts = keeps-by t c.clauses;
      counts = counts-at t c.counts;
    }

pub mended-sound : (t : List ℕ) → Right t → mended t ≡ t
mended-sound t c = mended-kept t (sound-keeps t c)

-- and one whose counts are not true has them corrected, and no more
pub mend-shaped : (t : List ℕ) → Sound t → mend_stores t ≡ recounts t
mend-shaped t c = only-counts t (anchored-by t c) (named_by t c) (keeps-by t c)

pub mended-shaped : (t : List ℕ) → Sound t → mended t ≡ run t (recounts t)
unfolding mended
mended-shaped t c = rw (mend-shaped t c)

-- ---- mending leaves no more than f

-- what the first two steps leave of it is text
abbrev Text : (f r : List ℕ) → Type 0
Text f r = (byte r 0 ≡ 3) × (keeps_text (rec f (heading_of r)) ≡ false)

module _ (f s : List ℕ) (w : Whole f) (p : Parts f s) where
  whole : Whole s
  whole = rw p.long w

  inside : (i : ℕ) → i < rooms f → i < rooms s
  inside i l = rw p.long l

  -- f is s with its debris cleared
  pub part-less : Less s f
  part-less = record { long = sym p.long; each = λ i l. go i (p.each i (rw p.long at l)) }
    where
      go : (i : ℕ) → Part f s i (rec f i) (rec s i) → Below (rec s i) (rec f i)
      go i (own x) = stays (alike-sym (rec f i) (rec s i) x)
      go i (loose z g) = free z

  -- the first step finds the entries
  entry-goes : (i : ℕ) → i < rooms f → byte (rec s i) 0 ≡ 2 → anchored s (rec s i) ≡ false → rec (after₂ s) i ≡ blank
  entry-goes i l k n =
      less-free (after₁ s) (after₂ s) (less₂ s) i (rw (less₁ s).long (inside i l)) (unfold after₁ in rec-wiped s (adrift s) i (inside i l) ∙ rw (k, n))

  -- the second the headings
  heading-goes : (i : ℕ) → i < rooms f → byte (rec s i) 0 ≡ 1 → named s i ≡ false → rec (after₂ s) i ≡ blank
  heading-goes i l k n = go ((less₁ s).each i (inside i l))
    where
      l₁ : i < rooms (after₁ s)
      l₁ = rw (less₁ s).long (inside i l)

      unnamed : named (after₁ s) i ≡ false
      unnamed = false-by (named (after₁ s) i) (λ e. not-both (up_named s (after₁ s) whole (less₁ s) i e) n)

      go : Below (rec s i) (rec (after₁ s) i) → rec (after₂ s) i ≡ blank
      go (free e) = less-free (after₁ s) (after₂ s) (less₂ s) i l₁ e
      go (stays y) = unfold after₂ in rec-wiped (after₁ s) (orphan (after₁ s)) i l₁ ∙ rw (alike-kind (rec s i) (rec (after₁ s) i) y, k, unnamed)

  -- after them: no more than f, but for text
  under₂ : (i : ℕ) → i < rooms f → Part f s i (rec f i) (rec s i) → Below (rec f i) (rec (after₂ s) i) ⊎ Text f (rec s i)
  under₂ i l (own x) = inl (below-trans (rec f i) (rec s i) (rec (after₂ s) i) (stays x) ((less₁₂ s).each i (inside i l)))
  under₂ i l (loose z (entry k n)) = inl (free (entry-goes i l k n))
  under₂ i l (loose z (heading k n)) = inl (free (heading-goes i l k n))
  under₂ i l (loose z (text k n)) = inr (k, n)

  -- what keeps no text in f keeps none here
  keeps₂ : (h : ℕ) → keeps_text (rec f h) ≡ false → keeps_text (rec (after₂ s) h) ≡ false
  keeps₂ h n = by_cases (dec_lt h (rooms f)) (λ (l : h < rooms f). go l (under₂ h l (p.each h l))) past
    where
      no : ((keeps_text (rec (after₂ s) h) ≡ true) → ⊥) → keeps_text (rec (after₂ s) h) ≡ false
      no = false-by (keeps_text (rec (after₂ s) h))

      go : h < rooms f → Below (rec f h) (rec (after₂ s) h) ⊎ Text f (rec s h) → keeps_text (rec (after₂ s) h) ≡ false
      go l (inl b) = no (λ e. not-both (up-keeps (rec f h) (rec (after₂ s) h) b e) n)
      go l (inr q) = no (λ e. not-both (up-keeps (rec s h) (rec (after₂ s) h) ((less₁₂ s).each h (inside h l)) e) (unfold keeps_text in rw q.0))

      past : ¬ (h < rooms f) → keeps_text (rec (after₂ s) h) ≡ false
      past o = unfold keeps_text in rw (rec-past (after₂ s) h (rw (less₁₂ s).long whole) (rw ((less₁₂ s).long, p.long) (omega arith)))

  -- after the third
  under₃ : (i : ℕ) → i < rooms f → Below (rec f i) (rec (after₂ s) i) ⊎ Text f (rec s i) → Below (rec f i) (rec (round s) i)
  under₃ i l = go
    where
      l₂ : i < rooms (after₂ s)
      l₂ = rw (less₁₂ s).long (inside i l)

      goes : Text f (rec s i) → Below (rec s i) (rec (after₂ s) i) → rec (round s) i ≡ blank
      goes q (free e) = less-free (after₂ s) (round s) (less₃ s) i l₂ e
      goes q (stays y) =
          rw (round_is s)
          (rec-wiped (after₂ s) (stray (after₂ s)) i l₂
          ∙ rw (alike_same (rec s i) (rec (after₂ s) i) y (rw q.0), q.0, keeps₂ (heading_of (rec s i)) q.1))

      go : Below (rec f i) (rec (after₂ s) i) ⊎ Text f (rec s i) → Below (rec f i) (rec (round s) i)
      go (inl b) = below-trans (rec f i) (rec (after₂ s) i) (rec (round s) i) b ((less₃ s).each i l₂)
      go (inr q) = free (goes q ((less₁₂ s).each i (inside i l)))

  pub round_under : Less f (round s)
  round_under = record { long = (round-less s).long ∙ p.long; each = λ i l. under₃ i l (under₂ i l (p.each i l)) }

  pub cleared-under : Less f (cleared s)
  cleared-under = less-trans f (round s) (cleared s) round_under (round-cleared s whole)

  -- whatever f is, both mend to the same table, which is f where f keeps the clauses
  pub debris : Kept f → mended s ≡ f
  debris k = sym (squeeze s f whole part-less cleared-under) ∙ mended-kept f k

  -- and so does every table between s and f
  pub between : Kept f → (a : List ℕ) → Less s a → Less a f → mended a ≡ f
  between k a d e = squeeze s a whole d (less-trans a f (cleared s) e cleared-under) ∙ debris k

  -- .. and after its first round there is nothing to clear
  pub between-once : Kept f → (a : List ℕ) → Less s a → Less a f → Once a
  between-once k a da e =
      quiet u
      (λ i l. none i (adrift u) (adrift f) l (adrift-still u f wu d i) (no-adrift f k.entries k.headings k.texts i))
      (λ i l. none i (orphan u) (orphan f) l (orphan-still u f wu d i) (no-orphan f k.entries k.headings k.texts i))
      (λ i l. none i (stray u) (stray f) l (stray-still u f wu d i) (no_stray f k.entries k.headings k.texts i))
    where
      u : List ℕ
      u = round a

      wa : Whole a
      wa = rw da.long whole

      wu : Whole u
      wu = rw (round-less a).long wa

      d : Less u f
      d = rw (still-round f (nothing-to-clear f k.entries k.headings k.texts)) at (round_mono a f wa e)

      over : Less f u
      over = less-trans f (round s) u round_under (round_mono s a whole da)

      none : (i : ℕ) (q r : ℕ → Bool) → i < rooms u → (Alike (rec u i) (rec f i) → q i ≡ true → r i ≡ true) → (i < rooms f → r i ≡ false) → q i ≡ false
      none i q r l g n = false-by (q i) (λ y. not-both (g (less_both u f d over i l) y) (n (rw d.long l)))

  pub one-round : Kept f → Once s
  one-round k = between-once k s (less-refl s) part-less

-- ---- the debris of one request

-- r is a heading, or text without a heading in f that keeps it
pub data Loose (f r : List ℕ) : Type 0 where
  head : byte r 0 ≡ 1 → Loose f r
  body : byte r 0 ≡ 3 → keeps_text (rec f (heading_of r)) ≡ false → Loose f r

-- .. or an entry that names no heading of s: one whose directory is none, no request leaves
pub data Debris (f s r : List ℕ) : Type 0 where
  laid : Loose f r → Debris f s r
  link : byte r 0 ≡ 2 → is_kind 1 (rec s (heading_named r)) ≡ false → Debris f s r

pub data Left (f s x r : List ℕ) : Type 0 where
  ours : Alike x r → Left f s x r
  litter : x ≡ blank → Debris f s r → Left f s x r

anchored-heading : (t r : List ℕ) → anchored t r ≡ true → is_kind 1 (rec t (heading_named r)) ≡ true
unfolding anchored
anchored-heading t r = and_left (is_kind 1 (rec t (heading_named r))) _

names-none : (t r : List ℕ) → is_kind 1 (rec t (heading_named r)) ≡ false → anchored t r ≡ false
unfolding anchored
names-none t r = and-no-left (is_kind 1 (rec t (heading_named r))) _

-- where f keeps the clauses no entry of s names a loose heading: its entries are f's, and those name headings of f, or name no heading
module _ (f s : List ℕ) (k : Kept f) (e : length s ≡ length f) (h : (i : ℕ) → i < rooms f → Left f s (rec f i) (rec s i)) where
  unnamed : (i : ℕ) → rec f i ≡ blank → byte (rec s i) 0 ≡ 1 → named s i ≡ false
  unfolding named
  unnamed i z ki =
      false-by _ (λ y.
      let x = any-true (λ j. names i (rec s j)) (rooms f) (rw e at y) in
      at x.0 x.1 x.2 (h x.0 x.1))
    where
      at : (j : ℕ) → j < rooms f → names i (rec s j) ≡ true → Left f s (rec f j) (rec s j) → ⊥
      at j l n (ours x) =
          let m : names i (rec f j) ≡ true = sym (alike-names i (rec f j) (rec s j) x) ∙ n in
          let g : is_kind 1 (rec f (heading_named (rec f j))) ≡ true = anchored-heading f (rec f j) (k.entries j l (names-kind i (rec f j) m)) in
          not-both g (rw (names-heading i (rec f j) m, z) (unfold blank in refl))
      at j l n (litter b (laid (head q))) = omega (arith, names-kind i (rec s j) n)
      at j l n (litter b (laid (body q g))) = omega (arith, names-kind i (rec s j) n)
      at j l n (litter b (link q g)) = not-both (rw (names-heading i (rec s j) n, ki)) g

  pub left-parts : Parts f s
  left-parts = record { long = e; each = λ i l. go i (h i l) }
    where
      go : (i : ℕ) → Left f s (rec f i) (rec s i) → Part f s i (rec f i) (rec s i)
      go i (ours x) = own x
      go i (litter z (laid (head q))) = loose z (heading q (unnamed i z q))
      go i (litter z (laid (body q g))) = loose z (text q g)
      go i (litter z (link q g)) = loose z (entry q (names-none s (rec s i) g))

  pub left-mends : Whole f → mended s ≡ f
  left-mends w = debris f s w left-parts k

  pub left-once : Whole f → Once s
  left-once w = one-round f s w left-parts k
