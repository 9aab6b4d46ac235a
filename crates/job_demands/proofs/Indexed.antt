-- The job on a table with its index: from a fit and sound table and its true index each filing and each reading is the request without
-- one, so the job is the job on the table alone; and the index is then true, or, where a sheet was cut, as the sheet before left it.
use mathlib.Core.Bool.{true, false, cond}
use mathlib.Core.List.{List, [], ◌∷◌}
use mathlib.Core.Logic.{◌⊎◌, inl, inr, ◌≢◌}
use mathlib.Core.Path.{◌≡◌, refl, ap, ◌∙◌}
use Prim.Native.Nat.{ℕ, suc, ◌+◌, ◌-◌, ◌≤◌}
use native.Mathlib.Omega.{arith}
use lib.Dec.{eqb}
use lib.ListN.{take}
use borrow.Author.Tests.{eqb-true, ne_eqb}
use Rattle.paper.specs.Layout.{boxed}
use Rattle.paper.specs.Table.{sized}
use Rattle.paper.specs.Check.{Verdict, passed, refused}
use Rattle.paper.specs.Sound.{sound}
use Rattle.paper.specs.Answer.{Outcome}
use Rattle.paper.specs.Index.{true_index, kept_after}
use Rattle.job.specs.Sheet.{Sheet, job}
use Rattle.job.specs.Told.{Indexed, beside, of_indexed}
use Rattle.job.specs.Refusal.{admission}
use Rattle.job.specs.Filing as F
use Rattle.job.specs.Filing.{wrs_line, FilingOf, filing_by, filed, Filing, after_filed, filing, kept_filed, kept_filing}
use Rattle.job.specs.Reading as R
use Rattle.job.specs.Reading.{rds_line, ReadingOf, reading_by, read_back, brought, Reading, after_read, reading, kept_read, kept_reading}
use Rattle.job.specs.Lamp.{read_ends, filed_ends, judged_ends, after_reading, after_filing, admitted, Lit, lit, LitKept, leaving_kept, kept_ran, lit_kept}
use Rattle.laws.proofs.Tests.{truth, either, clash}
use Rattle.demands.proofs.SoundKept.{sound-kept}
use Rattle.job_demands.proofs.Asked.{kept-true}
use Rattle.job_demands.proofs.Still.{still}
use Rattle.job_demands.proofs.Cut.{Filed, none, more, read_table, reading-still}

-- ---- reading

-- a reading, with an index beside the table
abbrev pub read_with : List ℕ → Reading → ReadingOf Indexed
read_with x (R.whole t back) = R.whole (beside t x) back
read_with x (R.failed i number t back) = R.failed i number (beside t x) back

module _ (t chain : List ℕ) (u : ℕ) (s : sized t ≡ true) (e : sound boxed t ≡ true) where
  read-still : (back : List ℕ) (y : Sheet) → (read_back t chain back u y).table ≡ t
  unfolding read_back
  read-still back y = still t (rds_line chain y.link) [] back u

  -- one sheet: no store is made, so the index stays
  read_kept : (back : List ℕ) (y : Sheet) → kept_read (beside t (true_index t)) chain back u y
      ≡ record { outcome = read_back t chain back u y; index = true_index t }
  unfolding kept_read read_back
  read_kept back y =
      kept-true t (true_index t) (rds_line chain y.link) [] back u 0 s e refl
      ∙ stays (read_back t chain back u y) (read-still back y)
    where
      stays : (o : Outcome) → o.table ≡ t → kept_after (true_index t) o ≡ record { outcome = o; index = true_index t }
      stays o q =
          ap (λ (x : List ℕ). record { outcome = o; index = x })
          (rw q (either (λ x. x ≡ true_index t) (eqb o.answer.number 22) (true_index t) (true_index t) refl refl))

  reading-kept : (xs : List Sheet) (back : List ℕ) (i : ℕ)
      → kept_reading (beside t (true_index t)) chain back u i xs ≡ read_with (true_index t) (reading t chain back u i xs)
  unfolding reading_by
  reading-kept [] back i = refl
  reading-kept (y ∷ ys) back i =
      rw (read_kept back y) (go (read_back t chain back u y) (read-still back y) (truth (brought y (read_back t chain back u y))) (λ b. reading-kept ys b (suc i)))
    where
      go : (o : Outcome) → o.table ≡ t → (brought y o ≡ true) ⊎ (brought y o ≡ false)
          → ((b : List ℕ) → kept_reading (beside t (true_index t)) chain b u (suc i) ys ≡ read_with (true_index t) (reading t chain b u (suc i) ys))
          → R.after_asked i y (λ s₁ b. kept_reading s₁ chain b u (suc i) ys) (of_indexed (record { outcome = o; index = true_index t }))
          ≡ read_with (true_index t) (after_read i y (λ t₁ b. reading t₁ chain b u (suc i) ys) o)
      go o q (inl z) r = rw (z, q) (r o.reply)
      go o q (inr z) r = rw z

-- ---- filing

abbrev pub filed_with : List ℕ → Filing → FilingOf Indexed
filed_with x (F.whole t stores) = F.whole (beside t x) stores
filed_with x (F.failed i number t stores) = F.failed i number (beside t x) stores

module _ (chain : List ℕ) (u : ℕ) where
  -- the index x after a filing of the sheets xs, the first of them sheet i: the true index of the table after it; or, where a sheet was
  -- cut, of the table after the sheets before it
  abbrev pub After : (t : List ℕ) (i : ℕ) (xs : List Sheet) → Filing → List ℕ → Type 0
  After t i xs (F.whole f n) x = (sized f ≡ true) × (sound boxed f ≡ true) × (x ≡ true_index f)
  After t i xs (F.failed j number f n) x =
      (i ≤ j) × (number ≢ 22 → x ≡ true_index f) × (number ≡ 22 → (z : List ℕ) × Filed chain u t (take (j - i) xs) z × (x ≡ true_index z))

  -- .. of one sheet more, answered 0
  after_more : (t : List ℕ) (k i : ℕ) (y : Sheet) (ys : List Sheet) (x : List ℕ) → (filed t chain u k y).answer.number ≡ 0
      → (f : Filing) → After (filed t chain u k y).table (suc i) ys f x → After t i (y ∷ ys) f x
  after_more t k i y ys x e (F.whole f n) a = a
  after_more t k i y ys x e (F.failed j number f n) a =
      let d : j - i ≡ suc (j - suc i) = omega (arith, a.0) in
      (omega (arith, a.0), a.1, λ q. let h = a.2 q in (h.0, rw d (more k e h.1), h.2))

  filed-kept : (t : List ℕ) (k : ℕ) (y : Sheet) → sized t ≡ true → sound boxed t ≡ true
      → kept_filed (beside t (true_index t)) chain u k y ≡ kept_after (true_index t) (filed t chain u k y)
  unfolding kept_filed filed
  filed-kept t k y s e = kept-true t (true_index t) (wrs_line chain y.link) y.text [] u k s e refl

  filed-sound : (t : List ℕ) (k : ℕ) (y : Sheet) → sized t ≡ true → sound boxed t ≡ true → (filed t chain u k y).answer.number ≡ 0
      → (sized (filed t chain u k y).table ≡ true) × (sound boxed (filed t chain u k y).table ≡ true)
  unfolding filed
  filed-sound t k y s e n = sound-kept t (wrs_line chain y.link) y.text [] u k s e (λ c. omega (arith, c, n))

  filing-kept : (xs : List Sheet) (t : List ℕ) (k i made : ℕ) → sized t ≡ true → sound boxed t ≡ true
      → (x : List ℕ) × (kept_filing (beside t (true_index t)) chain u k i made xs ≡ filed_with x (filing t chain u k i made xs))
      × After t i xs (filing t chain u k i made xs) x
  unfolding filing_by
  filing-kept [] t k i made s e = (true_index t, refl, (s, e, refl))
  filing-kept (y ∷ ys) t k i made s e =
      rw (filed-kept t k y s e)
      (go (filed t chain u k y) (filed-sound t k y s e) (after_more t k i y ys)
      (truth (eqb (filed t chain u k y).answer.number 0)) (λ t₁ k₁ m. filing-kept ys t₁ k₁ (suc i) m))
    where
      Rest : Type 0
      Rest = (t₁ : List ℕ) (k₁ m : ℕ) → sized t₁ ≡ true → sound boxed t₁ ≡ true
          → (x : List ℕ) × (kept_filing (beside t₁ (true_index t₁)) chain u k₁ (suc i) m ys ≡ filed_with x (filing t₁ chain u k₁ (suc i) m ys))
          × After t₁ (suc i) ys (filing t₁ chain u k₁ (suc i) m ys) x

      go : (o : Outcome) → (o.answer.number ≡ 0 → (sized o.table ≡ true) × (sound boxed o.table ≡ true))
          → ((x : List ℕ) → o.answer.number ≡ 0 → (f : Filing) → After o.table (suc i) ys f x → After t i (y ∷ ys) f x)
          → (eqb o.answer.number 0 ≡ true) ⊎ (eqb o.answer.number 0 ≡ false) → Rest
          → (x : List ℕ)
          × (F.after_asked i made (λ s₁ n. kept_filing s₁ chain u (k - n) (suc i) (made + n) ys) (of_indexed (kept_after (true_index t) o))
          ≡ filed_with x (after_filed i made (λ t₁ n. filing t₁ chain u (k - n) (suc i) (made + n) ys) o))
          × After t i (y ∷ ys) (after_filed i made (λ t₁ n. filing t₁ chain u (k - n) (suc i) (made + n) ys) o) x
      go o sounds onward (inl z) rest =
          let n = eqb-true o.answer.number 0 z in
          let w = sounds n in
          let r = rest o.table (k - o.answer.stores) (made + o.answer.stores) w.0 w.1 in
          rw n (r.0, r.1, onward r.0 n (filing o.table chain u (k - o.answer.stores) (suc i) (made + o.answer.stores) ys) r.2)
      go o sounds onward (inr z) rest =
          rw z (
            cond (eqb o.answer.number 22) (true_index t) (true_index o.table),
            refl,
            (
              omega arith,
              λ n. rw (ne_eqb o.answer.number 22 n),
              λ n. let d : i - i ≡ 0 = omega arith in (t, rw d none, rw n),
            ),
          )

-- ---- the lamp

-- red in filing, by the stop number
abbrev pub IsCut : Lit → Type 0
IsCut o = (o.answer.phase ≡ 1) × (o.answer.number ≡ 22)

module _ (t sheets texts back chain : List ℕ) (u k : ℕ) where
  -- what the lamp leaves with an index, o, by what it leaves on the table alone: the same, and the true index of the table after; or,
  -- where a sheet was cut, of the table after the sheets before it
  pub record KeptJob (l : Lit) (o : LitKept) : Type 0 where
    pub same : o.lit ≡ l
    pub whole : (IsCut l → ⊥) → o.index ≡ true_index l.table
    pub cut : IsCut l → (z : List ℕ) × Filed chain u t (take (l.answer.sheet - 1) (job sheets texts)) z × (o.index ≡ true_index z)

  pub job-kept : sized t ≡ true → sound boxed t ≡ true
      → KeptJob (lit t sheets texts back chain u k) (lit_kept t (true_index t) sheets texts back chain u k)
  unfolding lit lit_kept
  job-kept s e = go (admission sheets texts back)
    where
      xs : List Sheet
      xs = job sheets texts

      read : (f : List ℕ) (n : ℕ) (r : Reading) → read_table r ≡ f → KeptJob (after_reading n r) (read_ends leaving_kept n (read_with (true_index f) r))
      read f n (R.whole v b) q = record { same = refl; whole = λ _. rw q; cut = λ c. clash c.0 }
      read f n (R.failed i number v b) q =
          record { same = refl; whole = λ _. rw q; cut = λ c. let y : ⊥ = omega (arith, c.0) in absurd y }

      ends : (f : Filing) (x : List ℕ) → After chain u t 1 xs f x
          → KeptJob (after_filing back (λ t₁. reading t₁ chain back u 1 xs) f) (filed_ends leaving_kept back (λ s₁. kept_reading s₁ chain back u 1 xs) (filed_with x f))
      ends (F.failed j number f n) x a = record { same = refl; whole = λ c. a.1 (λ q. c (refl, q)); cut = λ c. a.2 c.1 }
      ends (F.whole f n) x a =
          rw (a.2, reading-kept f chain u a.0 a.1 xs back 1) (read f n (reading f chain back u 1 xs) (reading-still f chain back u 1 xs))

      go : (v : Verdict) → KeptJob (admitted t sheets texts back chain u k v)
          (judged_ends leaving_kept (beside t (true_index t)) back (kept_ran (beside t (true_index t)) sheets texts back chain u k) v)
      go (refused f) = record { same = refl; whole = λ _. refl; cut = λ c. clash c.0 }
      go passed = let h = filing-kept chain u xs t k 1 0 s e in rw h.1 (ends (filing t chain u k 1 0 xs) h.0 h.2)
