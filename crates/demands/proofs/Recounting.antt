-- Document 02's brackets: "(the file named, the file displaced, the holder)". The entry's store changes one record, which is no heading, so
-- the headings whose counts it made untrue are those that the entry before it or the new one names, and the holder where one of the two is none.
-- a few records laid by a test; what bytes 12-15 say; one record changed
pub mod Few
pub mod Numbers
pub mod After
-- the tables that an entry is stored to: `clears-enter`, `free-enters`, `over-enters`, `filed-counts`
pub mod Before
-- for code: what the counts tell, and a heading counted again byte by byte
pub mod Telling
pub mod Bytes
use mathlib.Core.Bool.{Bool, true, false, ◌&&◌, not}
use mathlib.Core.List.{List, [], ◌∷◌, ◌++◌}
use mathlib.Core.Logic.{◌⊎◌, inl, inr, ◌≢◌}
use mathlib.Core.Path.{◌≡◌, refl, sym, ap, ◌∙◌}
use Prim.Native.Nat.{ℕ, ◌+◌, ◌<◌}
use native.Mathlib.Omega.{arith}
use lib.Dec.{eqb}
use borrow.Author.Tests.{eqb-true, eq-eqb}
use Rattle.paper.specs.Record.{byte, two, is_kind, directory, holder_of, heading_named, names}
use Rattle.paper.specs.Table.{rooms, rec, lay}
use Rattle.paper.specs.Entry.{Holder, in_directory, stands}
use Rattle.paper.specs.Store.{Store, puts, run}
use Rattle.paper.specs.Count.{namings, holdings, recounted, untrue, recounts}
use Rattle.paper.specs.Answer.{yes_no}
use Rattle.laws.proofs.Tests.{not-both, and_left, and_right, or_cases}
use Rattle.laws.proofs.Entries.{stands-true, stands_by, names-kind, names-heading}
use Rattle.laws.proofs.Lay.{Whole, rooms-lay, within}
use Rattle.laws.proofs.Runs.{run-append, length_run, rooms-run}
use Rattle.demands.proofs.Recounting.Few.{Up, In, fills_at, fills-cong, fills-few}
use Rattle.demands.proofs.Recounting.Numbers.{bytes-named, bytes-held}
use Rattle.demands.proofs.Recounting.After.{Entering, namings-after, crowd-after, heading-same, changed, untrue-changed}

-- heading i is one of the three: x was in the entry's place and r is
pub data Bracket (x r : List ℕ) (i : ℕ) : Type 0 where
  named : byte r 0 ≡ 2 → heading_named r ≡ i → Bracket x r i
  displaced : byte x 0 ≡ 2 → heading_named x ≡ i → Bracket x r i
  holds : byte r 0 ≡ 2 → byte x 0 ≢ 2 → holder_of r ≡ i → Bracket x r i
  held : byte x 0 ≡ 2 → byte r 0 ≢ 2 → holder_of x ≡ i → Bracket x r i

-- a test that says the same of both counts the same
unmoved : (a b : ℕ) (x y : Bool) → x ≡ y → b + yes_no x ≡ a + yes_no y → eqb a b ≡ true
unmoved a b true true e q = eq-eqb a b (omega arith)
unmoved a b false false e q = eq-eqb a b (omega arith)
unmoved a b true false e q = absurd (not-both refl e)
unmoved a b false true e q = absurd (not-both e refl)

-- the entry, before or now, that makes the two tests differ
moved : (x y : Bool) → ((x ≡ y) → ⊥) → (x ≡ true) ⊎ (y ≡ true)
moved true y d = inl refl
moved false true d = inr refl
moved false false d = absurd (d refl)

module _ (t : List ℕ) (e : ℕ) (r : List ℕ) (g : Entering t e r) where
  abbrev f : List ℕ
  f = lay t e r

  -- "the file named, the file displaced"
  by_name : (i : ℕ) → not (eqb (namings t i) (namings f i)) ≡ true → Bracket (rec t e) r i
  by_name i q = go (moved (names i (rec t e)) (names i r) (λ s. not-both q (rw (unmoved (namings t i) (namings f i) _ _ s (namings-after t e r g i)))))
    where
      go : (names i (rec t e) ≡ true) ⊎ (names i r ≡ true) → Bracket (rec t e) r i
      go (inl n) = displaced (names-kind i (rec t e) n) (names-heading i (rec t e) n)
      go (inr n) = named (names-kind i r n) (names-heading i r n)

  -- "the holder"
  by-holder : (i : ℕ) → not (eqb (holdings t i) (holdings f i)) ≡ true → Bracket (rec t e) r i
  by-holder i q =
      go (moved (stands (in_directory i) (rec t e)) (stands (in_directory i) r)
      (λ s. not-both q (rw (unmoved (holdings t i) (holdings f i) _ _ s (crowd-after t e r g (in_directory i))))))
    where
      both : stands (in_directory i) (rec t e) ≡ true → byte r 0 ≡ 2 → ⊥
      both s k =
          let a = stands-true (in_directory i) (rec t e) s in
          let p = g.place a.kind k in
          let h : holder_of r ≡ holder_of (rec t e) = ap (λ (d : Holder). d.heading) p in
          not-both q (rw (unmoved (holdings t i) (holdings f i) (stands (in_directory i) (rec t e)) (stands (in_directory i) r)
          (s ∙ sym (stands_by (in_directory i) r (record { kind = k; heading = h ∙ a.heading; user = ap (λ (d : Holder). d.user) p ∙ a.user })))
          (crowd-after t e r g (in_directory i))))

      again : stands (in_directory i) r ≡ true → byte (rec t e) 0 ≡ 2 → ⊥
      again s k =
          let a = stands-true (in_directory i) r s in
          let p = g.place k a.kind in
          let h : holder_of r ≡ holder_of (rec t e) = ap (λ (d : Holder). d.heading) p in
          both (stands_by (in_directory i) (rec t e) (record { kind = k; heading = sym h ∙ a.heading; user = sym (ap (λ (d : Holder). d.user) p) ∙ a.user }))
          a.kind

      go : (stands (in_directory i) (rec t e) ≡ true) ⊎ (stands (in_directory i) r ≡ true) → Bracket (rec t e) r i
      go (inl s) = let a = stands-true (in_directory i) (rec t e) s in held a.kind (both s) a.heading
      go (inr s) = let a = stands-true (in_directory i) r s in holds a.kind (again s) a.heading

  changed-three : (i : ℕ) → changed t e r g i ≡ true → Bracket (rec t e) r i
  changed-three i q = go (or_cases (not (eqb (namings t i) (namings f i))) _ q)
    where
      go : (not (eqb (namings t i) (namings f i)) ≡ true) ⊎ ((directory (rec t i) && not (eqb (holdings t i) (holdings f i))) ≡ true) → Bracket (rec t e) r i
      go (inl n) = by_name i n
      go (inr n) = by-holder i (and_right (directory (rec t i)) _ n)

  -- the headings that `recounts` corrects after the entry's store are among the three
  pub three : (i : ℕ) → i < rooms t → untrue f i ≡ true → Bracket (rec t e) r i
  three i l q = changed-three i (and_right (is_kind 1 (rec t i)) _ (sym (untrue-changed t e r g i l) ∙ q))

  -- it corrects, in record order and each once, those headings whose counts have changed; any ascending list tells that has the three in it
  pub recounts-few : Whole t → (l : List ℕ) → Up 0 l → ((i : ℕ) → i < rooms t → byte (rec t i) 0 ≡ 1 → Bracket (rec t e) r i → In i l)
      → recounts f ≡ fills_at (λ i. is_kind 1 (rec t i) && changed t e r g i) (λ i. recounted f i (rec t i)) l
  recounts-few w l u h =
      fills-cong (untrue f) corrects (λ i. recounted f i (rec f i)) (λ i. recounted f i (rec t i)) (rooms f)
      (λ i m. untrue-changed t e r g i (rw rooms-lay at m))
      (λ i m q. rw (heading-same t e r g i (rw rooms-lay at m) (kind i q)))
      ∙ fills-few corrects (λ i. recounted f i (rec t i)) (rooms f) l (λ i q. rw rooms-lay (below i q)) u
      (λ i q. h i (below i q) (kind i q) (changed-three i (and_right (is_kind 1 (rec t i)) _ q)))
    where
      corrects : ℕ → Bool
      corrects i = is_kind 1 (rec t i) && changed t e r g i

      kind : (i : ℕ) → corrects i ≡ true → byte (rec t i) 0 ≡ 1
      kind i q = eqb-true _ _ (and_left (is_kind 1 (rec t i)) _ q)

      below : (i : ℕ) → corrects i ≡ true → i < rooms t
      below i q = let k = kind i q in within t i w (λ (z : byte (rec t i) 0 ≡ 0). omega arith)

  -- .. with counts that are the old ones, one more for the new entry and one less for the old one
  pub named-after : (i : ℕ) → i < rooms t → byte (rec t i) 0 ≡ 1 → namings f i + yes_no (names i (rec t e)) ≡ two (rec t i) 12 + yes_no (names i r)
  named-after i l k = rw (bytes-named t g.few g.counts i l k) (namings-after t e r g i)

  pub held_after : (i : ℕ) → i < rooms t → directory (rec t i) ≡ true
      → holdings f i + yes_no (stands (in_directory i) (rec t e)) ≡ two (rec t i) 14 + yes_no (stands (in_directory i) r)
  held_after i l d =
      rw (bytes-held t g.few g.counts i l (eqb-true _ _ (and_left (is_kind 1 (rec t i)) _ d)) d) (crowd-after t e r g (in_directory i))

-- after the stores of a new file and its entry's, or after the entry's alone
pub recounts-entered : (t : List ℕ) (first : List Store) (e : ℕ) (r : List ℕ) (g : Entering (run t first) e r) → Whole t → (l : List ℕ) → Up 0 l
    → ((i : ℕ) → i < rooms t → byte (rec (run t first) i) 0 ≡ 1 → Bracket (rec (run t first) e) r i → In i l)
    → recounts (run t (first ++ puts e r ∷ []))
    ≡ fills_at (λ i. is_kind 1 (rec (run t first) i) && changed (run t first) e r g i) (λ i. recounted (lay (run t first) e r) i (rec (run t first) i)) l
unfolding run
recounts-entered t first e r g w l u h =
    rw (run-append t first (puts e r ∷ [])) (recounts-few (run t first) e r g (rw length_run w) l u (λ i m. h i (rw rooms-run at m)))
