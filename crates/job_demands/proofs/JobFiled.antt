-- A job whose filing is whole: each sheet was filed in the one directory that the walk reaches, since an earlier filing that stopped
-- the walk with 12 would have had the next refused. A later filing keeps what stands under other names; so all stand in the end.
use mathlib.Core.Bool.{true, false}
use mathlib.Core.List.{List, [], ◌∷◌, ◌++◌}
use mathlib.Core.Logic.{◌⊎◌, inl, inr}
use mathlib.Core.Path.{◌≡◌, sym, ◌∙◌, subst}
use Prim.Native.Nat.{ℕ, suc, ◌+◌, ◌-◌, ◌≤◌}
use lib.Dec.{eqb}
use borrow.Author.Tests.{eqb-true}
use Rattle.paper.specs.Layout.{boxed}
use Rattle.paper.specs.Request.{Request, request, asked}
use Rattle.paper.specs.Walk.{State, start, Walked, reached, stopped, to_directory}
use Rattle.paper.specs.Answer.{Outcome}
use Rattle.job.specs.Sheet.{Sheet}
use Rattle.job.specs.Filing.{wrs_line, filed, whole, failed, after_filed, filing_by, filing}
use Rattle.laws.proofs.Tests.{truth, clash}
use Rattle.laws.proofs.Lists.{Every, every-both}
use Rattle.demands.proofs.Sound.Clauses.{Sound}
use Rattle.demands.proofs.Sound.Right.{Right}
use Rattle.job_demands.proofs.Lines.{prefix}
use Rattle.job_demands.proofs.Kept.{Stood, stood, kept}
use Rattle.job_demands.proofs.Walks.{Meets, walk-last, walk_kept}
use Rattle.job_demands.proofs.FileOne.{OneFiled, one-filed}
use Rattle.job_demands.proofs.Proper.{Proper, Other, Apart}

-- the walk to the directory that a chain names, whatever link follows it
abbrev pub walk : List ℕ → List ℕ → ℕ → Walked
walk t chain u = to_directory boxed t 1 (start u) (prefix chain ++ [] ∷ [])

-- sheet x stands in d, and its line was read
pub record Standing (t chain : List ℕ) (d : State) (x : Sheet) : Type 0 where
  pub stood : Stood t d.holder x.link x.text
  pub read : (r : Request) × (asked (wrs_line chain x.link) x.text ≡ request r)

-- the sheets ys stand in d, and the walk reaches it or stops with 12
pub record Held (t chain : List ℕ) (u : ℕ) (d : State) (ys : List Sheet) : Type 0 where
  pub sound : Right t
  pub user : u ≤ 999999
  pub walk : Meets (reached d) (walk t chain u)
  pub sheets : Every (Standing t chain d) ys

module _ (chain : List ℕ) (u : ℕ) where
  -- one sheet more
  more : (t f : List ℕ) (x : Sheet) (ys : List Sheet) → Sound t → (o : OneFiled t chain u x f) → Every (Standing t chain o.directory) ys
      → Every (Other x) ys → Held f chain u o.directory (x ∷ ys)
  more t f x ys c o h a =
      record {
        sound = o.sound;
        user = o.user;
        walk = walk_kept t f d.holder x.link x.text c o.sound.clauses o.filed 1 (start u) _ d
            (walk-last t 1 (start u) (prefix chain) [] x.link ∙ o.walk);
        sheets = (
          record { stood = stood t f d.holder x.link x.text c o.sound.clauses o.filed; read = o.read },
          every-both (Standing t chain d) (Other x) (Standing f chain d) ys
              (λ y s q. record {
                stood = kept t f d.holder x.link x.text c o.sound.clauses o.filed y.link y.text q s.stood;
                read = s.read;
              }) h a,
        );
      }
    where
      d : State
      d = o.directory

  -- .. beside those that stand: it was filed where they do
  next : (t f : List ℕ) (d : State) (x : Sheet) (ys : List Sheet) → Held t chain u d ys → OneFiled t chain u x f → Every (Other x) ys
      → Held f chain u d (x ∷ ys)
  next t f d x ys h o a =
      let q = same h.walk in
      subst (λ (z : State). Held f chain u z (x ∷ ys)) q
      (more t f x ys h.sound.clauses o (subst (λ (z : State). Every (Standing t chain z) ys) (sym q) h.sheets) a)
    where
      there : walk t chain u ≡ reached o.directory
      there = walk-last t 1 (start u) (prefix chain) [] x.link ∙ o.walk

      same : Meets (reached d) (walk t chain u) → o.directory ≡ d
      same (inl z) = let y : reached o.directory ≡ reached d = sym there ∙ z in cc
      same (inr (link, z)) = let y : reached o.directory ≡ stopped 12 link = sym there ∙ z in clash (cc)

  -- ---- the filing

  -- a filing that is whole: its first sheet was answered 0, and the rest is whole
  whole-first : (k i made : ℕ) (x : Sheet) (xs : List Sheet) (t f : List ℕ) (n : ℕ) → filing t chain u k i made (x ∷ xs) ≡ whole f n
      → ((filed t chain u k x).answer.number ≡ 0)
      × (filing (filed t chain u k x).table chain u (k - (filed t chain u k x).answer.stores) (suc i) (made + (filed t chain u k x).answer.stores) xs
      ≡ whole f n)
  unfolding filing_by
  whole-first k i made x xs t f n e = go (filed t chain u k x) (truth (eqb (filed t chain u k x).answer.number 0)) e
    where
      go : (o : Outcome) → (eqb o.answer.number 0 ≡ true) ⊎ (eqb o.answer.number 0 ≡ false)
          → after_filed i made (λ t₁ m. filing t₁ chain u (k - m) (suc i) (made + m) xs) o ≡ whole f n
          → (o.answer.number ≡ 0) × (filing o.table chain u (k - o.answer.stores) (suc i) (made + o.answer.stores) xs ≡ whole f n)
      go o (inl z) e = (eqb-true _ _ z, rw z at e)
      go o (inr z) e =
          let y : failed i o.answer.number o.table (made + o.answer.stores) ≡ whole f n = rw z at e in
          clash (cc)

  rest-held : (m : ℕ) (xs : List Sheet) (t : List ℕ) (d : State) (ys : List Sheet) (k i made : ℕ) (f : List ℕ) (n : ℕ) → Held t chain u d ys
      → Apart ys xs → Every (Proper m) xs → filing t chain u k i made xs ≡ whole f n → Held f chain u d ys × Every (Standing f chain d) xs
  unfolding filing_by
  rest-held m [] t d ys k i made f n h a p e = let z : t ≡ f = cc in (subst (λ (y : List ℕ). Held y chain u d ys) z h, tt)
  rest-held m (x ∷ xs) t d ys k i made f n h a p e =
      let w = whole-first k i made x xs t f n e in
      let o = one-filed t chain u k x h.sound.clauses p.0.legal w.0 in
      let r = rest-held m xs _ d (x ∷ ys) _ _ _ f n (next t _ d x ys h o a.0) a.1 p.1 w.1 in
      (record { sound = r.0.sound; user = r.0.user; walk = r.0.walk; sheets = r.0.sheets.1 }, (r.0.sheets.0, r.1))

  -- all sheets of a job stand in one directory
  pub job-held : (m : ℕ) (x : Sheet) (xs : List Sheet) (t : List ℕ) (k i made : ℕ) (f : List ℕ) (n : ℕ) → Sound t
      → Apart [] (x ∷ xs) → Every (Proper m) (x ∷ xs) → filing t chain u k i made (x ∷ xs) ≡ whole f n
      → (d : State) × Held f chain u d (x ∷ xs)
  job-held m x xs t k i made f n c a p e =
      let w = whole-first k i made x xs t f n e in
      let o = one-filed t chain u k x c p.0.legal w.0 in
      let r = rest-held m xs _ o.directory (x ∷ []) _ _ _ f n (more t _ x [] c o tt tt) a.1 p.1 w.1 in
      (o.directory, record { sound = r.0.sound; user = r.0.user; walk = r.0.walk; sheets = (r.0.sheets.0, r.1) })
