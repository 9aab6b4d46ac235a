-- "A cut, once mended, leaves the first sheets filed and no half of any." Each sheet that is answered 0 leaves a sound table; the one at
-- which the job stops is one request, and a request cut and mended is the table before it or after it.
use mathlib.Core.Bool.{true, false}
use mathlib.Core.List.{List, [], ◌∷◌}
use mathlib.Core.Logic.{◌⊎◌, inl, inr, ◌≢◌}
use mathlib.Core.Path.{◌≡◌, refl, sym, ap, ◌∙◌}
use Prim.Native.Nat.{ℕ, suc, ◌+◌, ◌-◌, ◌≤◌}
use native.Mathlib.Omega.{arith}
use lib.Dec.{eqb}
use lib.ListN.{length, take}
use borrow.Author.Tests.{eqb-true, eqb-false}
use Rattle.paper.specs.Layout.{boxed}
use Rattle.paper.specs.Table.{sized}
use Rattle.paper.specs.Name.{link_name}
use Rattle.paper.specs.Line.{Word}
use Rattle.paper.specs.Check.{Verdict, passed, refused}
use Rattle.paper.specs.Request.{del, dst, rewrite, request, asked}
use Rattle.paper.specs.Sound.{sound}
use Rattle.paper.specs.Mend.{mend_stores, mended}
use Rattle.paper.specs.Answer.{Outcome, requested, mending}
use Rattle.job.specs.Sheet.{Sheet, job}
use Rattle.job.specs.Refusal.{admission}
use Rattle.job.specs.Filing as F
use Rattle.job.specs.Filing.{wrs_line, filed, Filing, after_filed, filing_by, filing}
use Rattle.job.specs.Reading as R
use Rattle.job.specs.Reading.{rds_line, read_back, brought, Reading, after_read, reading_by, reading}
use Rattle.job.specs.Lamp.{Lit, admitted, after_filing, after_reading, lit}
use Rattle.laws.proofs.Tests.{truth, either, clash}
use Rattle.laws.proofs.Lists.{Every, every-imp}
use Rattle.demands.proofs.Request.Several.{Several, deletion, destruction, asking}
use Rattle.demands.proofs.Answered.{refusal-lends}
use Rattle.demands.proofs.Sound.Right.{sound-right}
use Rattle.demands.proofs.Mending.Debris.{mended-sound}
use Rattle.demands.proofs.Mending.{mended_whole, mend-whole}
use Rattle.demands.proofs.PowerCut.{Lands, before, after, first, marked, demand-three}
use Rattle.demands.proofs.SoundKept.{sound-kept}
use Rattle.job_demands.proofs.Still.{still}
use Rattle.job_demands.proofs.Lines.{wrs-names}
use Rattle.job_demands.proofs.Proper.{Proper, job-proper}

-- the sheets filed one after another, each answered 0, lead from one table to another; the stop numbers do not matter
pub data Filed (chain : List ℕ) (u : ℕ) : List ℕ → List Sheet → List ℕ → Type 0 where
  none : {t : List ℕ} → Filed chain u t [] t
  more : {t : List ℕ} {x : Sheet} {xs : List Sheet} {z : List ℕ} (k : ℕ) → (filed t chain u k x).answer.number ≡ 0
      → Filed chain u (filed t chain u k x).table xs z → Filed chain u t (x ∷ xs) z

-- the table that a filing leaves
abbrev pub table_of : Filing → List ℕ
table_of (F.whole t stores) = t
table_of (F.failed i number t stores) = t

-- a table that, once mended, is the one after the first n of some sheets; and mending answers 0
pub record FirstFiled (chain : List ℕ) (u : ℕ) (t : List ℕ) (xs : List Sheet) (x : List ℕ) : Type 0 where
  pub sheets : ℕ
  pub most : sheets ≤ length xs
  pub mended : Filed chain u t (take sheets xs) (mended x)
  pub answers : (j : ℕ) → length (mend_stores x) ≤ j → mending boxed x j ≡ mended_whole x

-- a filing line is no DEL's and no DST's
wrs-no-del : (chain : List ℕ) (x : Sheet) → link_name x.link ≡ true → (v : Several) (ws : List Word)
    → asked (wrs_line chain x.link) x.text ≡ request (asking v ws) → ⊥
wrs-no-del chain x l deletion ws q = clash (let w = wrs-names chain x.link x.text (del ws) l q in cc w.1)
wrs-no-del chain x l destruction ws q = clash (let w = wrs-names chain x.link x.text (dst ws) l q in cc w.1)

-- .. and no rewrite's
wrs-no-rewrite : (chain : List ℕ) (x : Sheet) → link_name x.link ≡ true → (w : Word) → asked (wrs_line chain x.link) x.text ≡ request (rewrite w) → ⊥
wrs-no-rewrite chain x l v q =
    let w = wrs-names chain x.link x.text (rewrite v) l q in
    let z : ◌≡◌ {A = ℕ} 0 1 = cc w.1 in
    omega arith

module _ (chain : List ℕ) (u : ℕ) where
  -- a sound table as it is
  first-none : (t : List ℕ) (xs : List Sheet) → sized t ≡ true → sound boxed t ≡ true → FirstFiled chain u t xs t
  first-none t xs s e =
      let z : mended t ≡ t = mended-sound t (sound-right t s e) in
      record { sheets = 0; most = omega arith; mended = rw z none; answers = λ j. mend-whole t j (rw z s) (rw z e) }

  -- the sheet at which the job stops: one request, cut or refused
  first-stop : (t : List ℕ) (k : ℕ) (x : Sheet) (xs : List Sheet) → link_name x.link ≡ true → sized t ≡ true → sound boxed t ≡ true
      → FirstFiled chain u t (x ∷ xs) (filed t chain u k x).table
  unfolding filed
  first-stop t k x xs l s e =
      let h = demand-three t (wrs_line chain x.link) x.text [] u k s e in
      go h.answers h.lands
    where
      z : List ℕ
      z = (requested boxed t (wrs_line chain x.link) x.text [] u k).table

      go : ((j : ℕ) → length (mend_stores z) ≤ j → mending boxed z j ≡ mended_whole z) → Lands t (wrs_line chain x.link) x.text [] u (mended z)
          → FirstFiled chain u t (x ∷ xs) z
      go a (before q) = record { sheets = 0; most = omega arith; mended = rw q none; answers = a }
      go a (after d) =
          record { sheets = 1; most = omega arith; mended = rw d.table (more d.stop d.number none); answers = a }
      go a (first v ws n q m d) = absurd (wrs-no-del chain x l v ws q)
      go a (marked h) = absurd (wrs-no-rewrite chain x l h.name h.asked)

  -- one sheet filed, and then the first n of the others
  first_more : (t : List ℕ) (k : ℕ) (x : Sheet) (xs : List Sheet) (z : List ℕ) → (filed t chain u k x).answer.number ≡ 0
      → FirstFiled chain u (filed t chain u k x).table xs z → FirstFiled chain u t (x ∷ xs) z
  first_more t k x xs z e f =
      record { sheets = suc f.sheets; most = omega (arith, f.most); mended = more k e f.mended; answers = f.answers }

  -- every filing on a sound table
  first-filed : (t : List ℕ) (k i made : ℕ) (xs : List Sheet) → Every (λ x. link_name x.link ≡ true) xs → sized t ≡ true → sound boxed t ≡ true
      → FirstFiled chain u t xs (table_of (filing t chain u k i made xs))
  unfolding filing_by filed
  first-filed t k i made [] l s e = first-none t [] s e
  first-filed t k i made (x ∷ xs) l s e =
      go (filed t chain u k x) refl (truth (eqb (filed t chain u k x).answer.number 0)) (λ t₁ k₁ m. first-filed t₁ k₁ (suc i) m xs l.1)
    where
      Rest : Type 0
      Rest = (t₁ : List ℕ) (k₁ m : ℕ) → sized t₁ ≡ true → sound boxed t₁ ≡ true
          → FirstFiled chain u t₁ xs (table_of (filing t₁ chain u k₁ (suc i) m xs))

      kept : (o : Outcome) → filed t chain u k x ≡ o → o.answer.number ≡ 0 → (sized o.table ≡ true) × (sound boxed o.table ≡ true)
      kept o q n = rw (← q) (sound-kept t (wrs_line chain x.link) x.text [] u k s e (λ y. omega (arith, y, ap (λ (o : Outcome). o.answer.number) q)))

      go : (o : Outcome) → filed t chain u k x ≡ o → (eqb o.answer.number 0 ≡ true) ⊎ (eqb o.answer.number 0 ≡ false) → Rest
          → FirstFiled chain u t (x ∷ xs)
          (table_of (after_filed i made (λ t₁ n. filing t₁ chain u (k - n) (suc i) (made + n) xs) o))
      go o q (inl y) r =
          let n = eqb-true o.answer.number 0 y in
          let w = kept o q n in
          rw y (first_more t k x xs _ (rw q n) (rw q (r o.table (k - o.answer.stores) (made + o.answer.stores) w.0 w.1)))
      go o q (inr y) r = rw (y, ← q) (first-stop t k x xs l.0 s e)

-- ---- the lamp

-- the table that a reading leaves
abbrev pub read_table : Reading → List ℕ
read_table (R.whole t back) = t
read_table (R.failed i number t back) = t

-- reading stores nothing
pub reading-still : (t chain back : List ℕ) (u i : ℕ) (xs : List Sheet) → read_table (reading t chain back u i xs) ≡ t
unfolding reading_by read_back
reading-still t chain back u i [] = refl
reading-still t chain back u i (x ∷ xs) =
    go (read_back t chain back u x) (still t (rds_line chain x.link) [] back u) (λ b. reading-still t chain b u (suc i) xs)
  where
    go : (o : Outcome) → o.table ≡ t → ((b : List ℕ) → read_table (reading t chain b u (suc i) xs) ≡ t)
        → read_table (after_read i x (λ t₁ b. reading t₁ chain b u (suc i) xs) o) ≡ t
    go o q r =
        either (λ y. read_table y ≡ t) (brought x o) _ (R.failed i o.answer.number o.table o.reply) (rw q (r o.reply)) q

-- "A cut, once mended, leaves the first sheets filed and no half of any": every job on a sound table, at every stop number
pub job-cut : (t sheets texts back chain : List ℕ) (u k : ℕ) → sized t ≡ true → sound boxed t ≡ true
    → FirstFiled chain u t (job sheets texts) (lit t sheets texts back chain u k).table
unfolding lit
job-cut t sheets texts back chain u k s e = go (admission sheets texts back) refl
  where
    xs : List Sheet
    xs = job sheets texts

    ends : (y : Filing) → FirstFiled chain u t xs (table_of y) → FirstFiled chain u t xs (after_filing back (λ t₁. reading t₁ chain back u 1 xs) y).table
    ends (F.failed i number f n) h = h
    ends (F.whole f n) h = read (reading f chain back u 1 xs) (reading-still f chain back u 1 xs)
      where
        read : (r : Reading) → read_table r ≡ f → FirstFiled chain u t xs (after_reading n r).table
        read (R.whole v b) q = rw q h
        read (R.failed i number v b) q = rw q h

    go : (v : Verdict) → admission sheets texts back ≡ v → FirstFiled chain u t xs (admitted t sheets texts back chain u k v).table
    go (refused f) q = first-none chain u t xs s e
    go passed q =
        ends (filing t chain u k 1 0 xs)
        (first-filed chain u t k 1 0 xs (every-imp (Proper (length back)) _ xs (λ x p. p.legal) (job-proper sheets texts back q)) s e)

-- a filing that stops at a sheet, not by the stop number, leaves the table after the sheets before it
module _ (chain : List ℕ) (u : ℕ) where
  filing-stopped : (t : List ℕ) (k i made : ℕ) (xs : List Sheet) (j number : ℕ) (z : List ℕ) (n : ℕ) → Every (λ x. link_name x.link ≡ true) xs
      → filing t chain u k i made xs ≡ F.failed j number z n → number ≢ 22 → (i ≤ j) × Filed chain u t (take (j - i) xs) z
  unfolding filing_by filed
  filing-stopped t k i made [] j number z n l q m = let y : ◌≡◌ {A = ℕ} 0 1 = cc in clash y
  filing-stopped t k i made (x ∷ xs) j number z n l q m =
      go (filed t chain u k x) refl (truth (eqb (filed t chain u k x).answer.number 0)) q (λ t₁ k₁ m₁. filing-stopped t₁ k₁ (suc i) m₁ xs j number z n l.1)
    where
      Rest : Type 0
      Rest = (t₁ : List ℕ) (k₁ m₁ : ℕ) → filing t₁ chain u k₁ (suc i) m₁ xs ≡ F.failed j number z n → number ≢ 22
          → (suc i ≤ j) × Filed chain u t₁ (take (j - suc i) xs) z

      lends : (o : Outcome) → filed t chain u k x ≡ o → o.answer.number ≢ 0 → o.answer.number ≢ 22 → o.table ≡ t
      lends o e a b = ((rw e at (refusal-lends t (wrs_line chain x.link) x.text [] u k (wrs-no-del chain x l.0))) a b).0

      go : (o : Outcome) → filed t chain u k x ≡ o → (eqb o.answer.number 0 ≡ true) ⊎ (eqb o.answer.number 0 ≡ false)
          → after_filed i made (λ t₁ n. filing t₁ chain u (k - n) (suc i) (made + n) xs) o ≡ F.failed j number z n → Rest
          → (i ≤ j) × Filed chain u t (take (j - i) (x ∷ xs)) z
      go o e (inl y) w r =
          let h = r o.table (k - o.answer.stores) (made + o.answer.stores) (rw y at w) m in
          let d : j - i ≡ suc (j - suc i) = omega (arith, h.0) in
          let a : (filed t chain u k x).answer.number ≡ 0 = rw e (eqb-true o.answer.number 0 y) in
          let b : Filed chain u (filed t chain u k x).table (take (j - suc i) xs) z = rw e h.1 in
          (omega (arith, h.0), rw d (more k a b))
      go o e (inr y) w r =
          let v = rw y at w in
          let p : i ≡ j = cc in
          let q : o.answer.number ≡ number = cc in
          let f : o.table ≡ z = cc in
          let g : z ≡ t = sym f ∙ lends o e (eqb-false o.answer.number 0 y) (λ c. m (sym q ∙ c)) in
          let d : j - i ≡ 0 = omega arith in
          (omega arith, rw (d, g) none)

-- a job that is red in filing, and not by the stop number, leaves exactly the table after the sheets before it: every table
pub job-stopped : (t sheets texts back chain : List ℕ) (u k : ℕ) → (lit t sheets texts back chain u k).answer.light ≡ 1
    → (lit t sheets texts back chain u k).answer.phase ≡ 1 → (lit t sheets texts back chain u k).answer.number ≢ 22
    → Filed chain u t (take ((lit t sheets texts back chain u k).answer.sheet - 1) (job sheets texts)) (lit t sheets texts back chain u k).table
unfolding lit
job-stopped t sheets texts back chain u k = go (admission sheets texts back) refl
  where
    xs : List Sheet
    xs = job sheets texts

    Stopped : Lit → Type 0
    Stopped o = o.answer.light ≡ 1 → o.answer.phase ≡ 1 → o.answer.number ≢ 22 → Filed chain u t (take (o.answer.sheet - 1) xs) o.table

    read : (n : ℕ) (r : Reading) → Stopped (after_reading n r)
    read n (R.whole v b) = λ (a : ◌≡◌ {A = ℕ} 0 1) _ _. clash a
    read n (R.failed i number v b) = λ _ (a : ◌≡◌ {A = ℕ} 2 1) _. let z : ⊥ = omega arith in absurd z

    ends : (y : Filing) → filing t chain u k 1 0 xs ≡ y → Every (λ x. link_name x.link ≡ true) xs
        → Stopped (after_filing back (λ t₁. reading t₁ chain back u 1 xs) y)
    ends (F.failed i number f n) q l = λ _ _ m. (filing-stopped chain u t k 1 0 xs i number f n l q m).1
    ends (F.whole f n) q l = read n (reading f chain back u 1 xs)

    go : (v : Verdict) → admission sheets texts back ≡ v → Stopped (admitted t sheets texts back chain u k v)
    go (refused f) q = λ (a : ◌≡◌ {A = ℕ} 2 1) _ _. let z : ⊥ = omega arith in absurd z
    go passed q = ends (filing t chain u k 1 0 xs) refl (every-imp (Proper (length back)) _ xs (λ x p. p.legal) (job-proper sheets texts back q))

-- a refused job stores nothing and leaves the table and the buffer as lent
pub job-refused : (t sheets texts back chain : List ℕ) (u k : ℕ) → (lit t sheets texts back chain u k).answer.light ≡ 2
    → ((lit t sheets texts back chain u k).answer.stores ≡ 0) × ((lit t sheets texts back chain u k).table ≡ t)
    × ((lit t sheets texts back chain u k).back ≡ back)
unfolding lit
job-refused t sheets texts back chain u k = go (admission sheets texts back)
  where
    Untouched : Lit → Type 0
    Untouched o = o.answer.light ≡ 2 → (o.answer.stores ≡ 0) × (o.table ≡ t) × (o.back ≡ back)

    read : (n : ℕ) (r : Reading) → Untouched (after_reading n r)
    read n (R.whole v b) = λ (a : ◌≡◌ {A = ℕ} 0 2). let z : ⊥ = omega arith in absurd z
    read n (R.failed i number v b) = λ (a : ◌≡◌ {A = ℕ} 1 2). let z : ⊥ = omega arith in absurd z

    ends : (y : Filing) → Untouched (after_filing back (λ t₁. reading t₁ chain back u 1 (job sheets texts)) y)
    ends (F.failed i number f n) = λ (a : ◌≡◌ {A = ℕ} 1 2). let z : ⊥ = omega arith in absurd z
    ends (F.whole f n) = read n (reading f chain back u 1 (job sheets texts))

    go : (v : Verdict) → Untouched (admitted t sheets texts back chain u k v)
    go (refused f) = λ _. (refl, refl, refl)
    go passed = ends (filing t chain u k 1 0 (job sheets texts))
