-- On a sound table a reading that answers 0 has brought the text sent, and one that fails is the first sheet's, with 12: the sheets all
-- stand in one directory, which the walk reaches at every reading, or at none where the last sheet filed displaced a link of the chain.
use mathlib.Core.Bool.{true}
use mathlib.Core.List.{List, [], ◌∷◌, ◌++◌}
use mathlib.Core.Logic.{◌⊎◌, inl, inr}
use mathlib.Core.Path.{◌≡◌, refl, ◌∙◌}
use Prim.Native.Nat.{ℕ, suc, ◌≤◌}
use native.Mathlib.Omega.{arith}
use lib.ListN.{length, drop, length-append, length-drop}
use lib.Seq.{take-append_seam}
use Rattle.paper.specs.Layout.{boxed}
use Rattle.paper.specs.Table.{sized}
use Rattle.paper.specs.Name.{link_name}
use Rattle.paper.specs.Line.{Word}
use Rattle.paper.specs.Check.{at_link, refusal_at, Verdict, passed, refused}
use Rattle.paper.specs.Declaration.{not_given}
use Rattle.paper.specs.Request.{own, Request, rds, request, asked}
use Rattle.paper.specs.Sound.{sound}
use Rattle.paper.specs.Walk.{State, start, reached, stopped}
use Rattle.paper.specs.Effect.{chain_of}
use Rattle.paper.specs.Answer.{Outcome, refusing, granted}
use Rattle.job.specs.Sheet.{Sheet, job}
use Rattle.job.specs.Refusal.{admission}
use Rattle.job.specs.Filing as F
use Rattle.job.specs.Filing.{wrs_line, Filing, filing}
use Rattle.job.specs.Reading as R
use Rattle.job.specs.Reading.{rds_line, read_back, brought, Reading, after_read, reading_by, reading}
use Rattle.job.specs.Lamp.{Lit, admitted, after_filing, after_reading, lit}
use Rattle.laws.proofs.Tests.{clash}
use Rattle.laws.proofs.Entries.{same_refl}
use Rattle.laws.proofs.Lists.{Every}
use Rattle.demands.proofs.Sound.Clauses.{Sound, sound-clauses}
use Rattle.demands.proofs.Sound.Right.{Right}
use Rattle.job_demands.proofs.Lines.{prefix, rds-reads}
use Rattle.job_demands.proofs.Walks.{Meets, walk-last}
use Rattle.job_demands.proofs.ReadOne.{sound-admits, Wrote, rds-writes, rds-stops}
use Rattle.job_demands.proofs.Proper.{Proper, Apart, job-proper, job-apart}
use Rattle.job_demands.proofs.JobFiled.{walk, Standing, Held, job-held}

-- the line of the reading is read where that of the filing was, and names the same directory
pub record Readable (chain link : List ℕ) : Type 0 where
  pub word : Word
  pub asked : asked (rds_line chain link) [] ≡ request (rds own word not_given not_given)
  pub names : chain_of word ≡ prefix chain ++ link ∷ []

pub readable : (chain link text : List ℕ) (r : Request) → link_name link ≡ true → asked (wrs_line chain link) text ≡ request r → Readable chain link
readable chain link text r l q =
    let a = rds-reads chain link text [] r l q in
    record { word = a.0; asked = a.1; names = a.2 }

-- ---- one sheet read back

module _ (t chain back : List ℕ) (u : ℕ) (x : Sheet) (c : Right t) (l : u ≤ 999999) (n : Readable chain x.link) where
  -- from the directory where it stands: whole, and the table stays
  read_whole : (d : State) → walk t chain u ≡ reached d → Standing t chain d x → length x.text ≤ length back
      → Wrote t back x.text (read_back t chain back u x)
  unfolding read_back granted
  read_whole d w s m =
      rw (sound-admits t (rds_line chain x.link) [] back u 0 (rds own n.word not_given not_given) c l n.asked)
      (rds-writes t back u 0 n.word (prefix chain) x.link n.names x.text d
      (walk-last t 1 (start u) (prefix chain) x.link [] ∙ w) s.stood m)

  -- where the walk stops, with its number
  read-stopped : (number link : ℕ) → walk t chain u ≡ stopped number link
      → read_back t chain back u x ≡ refusing t back (refusal_at number (at_link 1 link))
  unfolding read_back granted
  read-stopped number link w =
      sound-admits t (rds_line chain x.link) [] back u 0 (rds own n.word not_given not_given) c l n.asked
      ∙ rds-stops t back u 0 n.word (prefix chain) x.link n.names number link
      (walk-last t 1 (start u) (prefix chain) x.link [] ∙ w)

-- what was written is the text sent
pub wrote-brought : (t back : List ℕ) (x : Sheet) (o : Outcome) → Wrote t back x.text o → brought x o ≡ true
unfolding brought
wrote-brought t back x o w =
    rw (w.number, w.bytes, w.reply, take-append_seam x.text (drop (length x.text) back)) (same_refl x.text)

wrote-long : (t back text : List ℕ) (o : Outcome) → length text ≤ length back → Wrote t back text o → length o.reply ≡ length back
wrote-long t back text o l w = rw (w.reply, length-append, length-drop) (omega arith)

-- ---- the reading

-- a reading that is whole, or fails at sheet i with 12
abbrev pub ReadsBack : List ℕ → ℕ → Reading → Type 0
ReadsBack t i r = ((b : List ℕ) × (r ≡ R.whole t b)) ⊎ ((b : List ℕ) × (r ≡ R.failed i 12 t b))

module _ (t chain : List ℕ) (u : ℕ) (d : State) (c : Right t) (l : u ≤ 999999) where
  all_read : (m : ℕ) → walk t chain u ≡ reached d → (xs : List Sheet) (back : List ℕ) (i : ℕ) → length back ≡ m → Every (Proper m) xs
      → Every (Standing t chain d) xs → (b : List ℕ) × (reading t chain back u i xs ≡ R.whole t b)
  unfolding reading_by
  all_read m w [] back i e p s = (back, refl)
  all_read m w (x ∷ xs) back i e p s =
      let n = readable chain x.link x.text s.0.read.0 p.0.legal s.0.read.1 in
      let f : length x.text ≤ length back = rw e p.0.fits in
      go (read_back t chain back u x) (read_whole t chain back u x c l n d w s.0 f) f (λ b q. all_read m w xs b (suc i) q p.1 s.1)
    where
      go : (o : Outcome) → Wrote t back x.text o → length x.text ≤ length back
          → ((b : List ℕ) → length b ≡ m → (z : List ℕ) × (reading t chain b u (suc i) xs ≡ R.whole t z))
          → (b : List ℕ) × (after_read i x (λ t₁ b. reading t₁ chain b u (suc i) xs) o ≡ R.whole t b)
      go o a f rest =
          let r = rest o.reply (wrote-long t back x.text o f a ∙ e) in
          (r.0, onward r.0 r.1)
        where
          onward : (z : List ℕ) → reading t chain o.reply u (suc i) xs ≡ R.whole t z
              → after_read i x (λ t₁ b. reading t₁ chain b u (suc i) xs) o ≡ R.whole t z
          onward z q = rw (wrote-brought t back x o a, a.table) q

  first-fails : (link : ℕ) → walk t chain u ≡ stopped 12 link → (x : Sheet) (xs : List Sheet) (back : List ℕ) (i : ℕ) → Readable chain x.link
      → reading t chain back u i (x ∷ xs) ≡ R.failed i 12 t back
  unfolding reading_by brought
  first-fails link w x xs back i n = rw (read-stopped t chain back u x c l n 12 link w)

-- the sheets of a job, filed whole, are read back whole, or the first reading fails with 12
pub read_back_lem : (m : ℕ) (xs : List Sheet) (t chain back : List ℕ) (u k i made : ℕ) (f : List ℕ) (n : ℕ) → Sound t → length back ≡ m → Apart [] xs
    → Every (Proper m) xs → filing t chain u k i made xs ≡ F.whole f n → ReadsBack f 1 (reading f chain back u 1 xs)
unfolding reading_by
read_back_lem m [] t chain back u k i made f n c q a p e = inl (back, refl)
read_back_lem m (x ∷ xs) t chain back u k i made f n c q a p e =
    let h = job-held chain u m x xs t k i made f n c a p e in
    go h.0 h.1 h.1.walk
  where
    go : (d : State) → Held f chain u d (x ∷ xs) → Meets (reached d) (walk f chain u) → ReadsBack f 1 (reading f chain back u 1 (x ∷ xs))
    go d h (inl w) = inl (all_read f chain u d h.sound h.user m w (x ∷ xs) back 1 q p h.sheets)
    go d h (inr (link, w)) =
        let s = h.sheets.0 in
        let r = readable chain x.link x.text s.read.0 p.0.legal s.read.1 in
        inr (back, first-fails f chain u d h.sound h.user link w x xs back 1 r)

-- ---- what answers 0 has brought the text sent

-- .. into any buffer of m bytes
abbrev pub Brings : List ℕ → List ℕ → ℕ → ℕ → Sheet → Type 0
Brings t chain u m x = (back : List ℕ) → length back ≡ m → (read_back t chain back u x).answer.number ≡ 0 → brought x (read_back t chain back u x) ≡ true

module _ (t chain : List ℕ) (u m : ℕ) (d : State) (h : Right t) (l : u ≤ 999999) where
  each-brings : (xs : List Sheet) → Meets (reached d) (walk t chain u) → Every (Proper m) xs → Every (Standing t chain d) xs → Every (Brings t chain u m) xs
  each-brings [] w p s = tt
  each-brings (x ∷ xs) w p s = (go w, each-brings xs w p.1 s.1)
    where
      n : Readable chain x.link
      n = readable chain x.link x.text s.0.read.0 p.0.legal s.0.read.1

      go : Meets (reached d) (walk t chain u) → Brings t chain u m x
      go (inl q) back e _ = wrote-brought t back x _ (read_whole t chain back u x h l n d q s.0 (rw e p.0.fits))
      go (inr (link, q)) back e z =
          let y : ◌≡◌ {A = ℕ} 12 0 = rw (read-stopped t chain back u x h l n 12 link q) at z in
          let o : ⊥ = omega arith in
          absurd o

filed-brings : (m : ℕ) (xs : List Sheet) (t chain : List ℕ) (u k i made : ℕ) (f : List ℕ) (n : ℕ) → Sound t → Apart [] xs → Every (Proper m) xs
    → filing t chain u k i made xs ≡ F.whole f n → Every (Brings f chain u m) xs
filed-brings m [] t chain u k i made f n c a p e = tt
filed-brings m (x ∷ xs) t chain u k i made f n c a p e =
    let h = job-held chain u m x xs t k i made f n c a p e in
    each-brings f chain u m h.0 h.1.sound h.1.user (x ∷ xs) h.1.walk p h.1.sheets

-- a job that is filed whole: whatever reading of a sheet answers 0 has brought its text
pub zero-brings : (t sheets texts back chain : List ℕ) (u k : ℕ) (f : List ℕ) (n : ℕ) → sized t ≡ true → sound boxed t ≡ true
    → admission sheets texts back ≡ passed → filing t chain u k 1 0 (job sheets texts) ≡ F.whole f n
    → Every (Brings f chain u (length back)) (job sheets texts)
zero-brings t sheets texts back chain u k f n z e q =
    filed-brings (length back) (job sheets texts) t chain u k 1 0 f n (sound-clauses t z e)
    (job-apart sheets texts back q) (job-proper sheets texts back q)

-- ---- the lamp

-- red in reading is sheet 1 with 12; so never with number 0
abbrev pub RedReading : Lit → Type 0
RedReading o = o.answer.light ≡ 1 → o.answer.phase ≡ 2 → (o.answer.sheet ≡ 1) × (o.answer.number ≡ 12)

pub red-reading : (t sheets texts back chain : List ℕ) (u k : ℕ) → sized t ≡ true → sound boxed t ≡ true → RedReading (lit t sheets texts back chain u k)
unfolding lit
red-reading t sheets texts back chain u k z e = go (admission sheets texts back) refl
  where
    xs : List Sheet
    xs = job sheets texts

    read : (f : List ℕ) (n : ℕ) (r : Reading) → ReadsBack f 1 r → RedReading (after_reading n r)
    read f n r (inl (b, q)) = rw q (λ (a : ◌≡◌ {A = ℕ} 0 1) _. clash a)
    read f n r (inr (b, q)) = rw q (λ _ _. (refl, refl))

    files : Every (Proper (length back)) xs → Apart [] xs → (y : Filing) → filing t chain u k 1 0 xs ≡ y
        → RedReading (after_filing back (λ t₁. reading t₁ chain back u 1 xs) y)
    files p a (F.whole f n) q = read f n _ (read_back_lem (length back) xs t chain back u k 1 0 f n (sound-clauses t z e) refl a p q)
    files p a (F.failed i number f n) q = λ _ (w : ◌≡◌ {A = ℕ} 1 2). let y : ⊥ = omega arith in absurd y

    go : (v : Verdict) → admission sheets texts back ≡ v → RedReading (admitted t sheets texts back chain u k v)
    go (refused f) q = λ (w : ◌≡◌ {A = ℕ} 2 1) _. let y : ⊥ = omega arith in absurd y
    go passed q = files (job-proper sheets texts back q) (job-apart sheets texts back q) (filing t chain u k 1 0 xs) refl
