-- A filing answered 0 was read, tried by the plan of `WRS M chain:link`, passed its checks and made all its stores.
-- So the walk before it reached a directory, and the sheet is filed there.
use mathlib.Core.Bool.{true}
use mathlib.Core.List.{List, [], ◌∷◌, ◌++◌}
use mathlib.Core.Path.{◌≡◌, refl, ◌∙◌, subst}
use Prim.Native.Nat.{ℕ, ◌≤◌}
use native.Mathlib.Omega.{arith}
use Rattle.paper.specs.Layout.{boxed}
use Rattle.paper.specs.Name.{link_name}
use Rattle.paper.specs.Declaration.{not_given}
use Rattle.paper.specs.Line.{Word}
use Rattle.paper.specs.Request.{Request, wrs, request, asked}
use Rattle.paper.specs.Walk.{State, start, reached, to_directory, last_name}
use Rattle.paper.specs.Store.{run}
use Rattle.paper.specs.Effect.{Plan, Planned, chain_of, wrs_plan}
use Rattle.paper.specs.Answer.{Outcome, ran, single, granted, requested}
use Rattle.job.specs.Sheet.{Sheet}
use Rattle.job.specs.Filing as F
use Rattle.job.specs.Filing.{wrs_line}
use Rattle.demands.proofs.Sound.Clauses.{Sound}
use Rattle.demands.proofs.Sound.Right.{Right}
use Rattle.demands.proofs.Request.Fair.{fair-some}
use Rattle.demands.proofs.Request.Chains.{names_at}
use Rattle.demands.proofs.Request.Read.{Told, WrsRead}
use Rattle.demands.proofs.Request.Course.{Admitted, Course, untried, tried, course}
use Rattle.demands.proofs.Request.Ended.{Passed, ran-by}
use Rattle.demands.proofs.Answered.Numbered.{fair-refused, fair-wrs_plan}
use Rattle.demands.proofs.SoundKept.Kept.{passed-sound}
use Rattle.demands.proofs.SoundKept.Keeping.{wrs-keeps}
use Rattle.job_demands.proofs.Lines.{prefix, wrs-names}
use Rattle.job_demands.proofs.Kept.{Filed}
use Rattle.job_demands.proofs.Walks.{last_of}
use Rattle.job_demands.proofs.Filed.{wrs-files, passed-files}

-- sheet x was filed in t, which made f of it
pub record OneFiled (t chain : List ℕ) (u : ℕ) (x : Sheet) (f : List ℕ) : Type 0 where
  pub sound : Right f
  pub user : u ≤ 999999
  pub read : (r : Request) × (asked (wrs_line chain x.link) x.text ≡ request r)
  pub directory : State
  pub walk : to_directory boxed t 1 (start u) (prefix chain ++ x.link ∷ []) ≡ reached directory
  pub filed : Filed t f directory.holder x.link x.text

-- the plan, all its stores made
module _ (t chain : List ℕ) (u : ℕ) (x : Sheet) (c : Sound t) (w : Word) (l : u ≤ 999999) (h : WrsRead x.text 1 not_given not_given w)
    (e : chain_of w ≡ prefix chain ++ x.link ∷ []) (read : (r : Request) × (asked (wrs_line chain x.link) x.text ≡ request r)) where
  abbrev filing : Planned
  filing = wrs_plan boxed t u x.text 1 not_given not_given w

  made : (p : Plan) → Passed filing p → OneFiled t chain u x (run t p.stores)
  made p v =
      let s = passed-sound t filing p (wrs-keeps t c u x.text 1 not_given not_given w l h) v in
      let f = passed-files t u x.text w filing p (wrs-files t u x.text w c l h) v s.clauses in
      let n : last_name (chain_of w) ≡ x.link = rw e (last_of (prefix chain) x.link) in
      record {
        sound = s;
        user = l;
        read = read;
        directory = f.0;
        walk = rw e at f.1;
        filed = subst (λ (z : List ℕ). Filed t (run t p.stores) f.0.holder z x.text) n f.2;
      }

  planned : (k : ℕ) → (single t [] k (ran k filing)).answer.number ≡ 0 → OneFiled t chain u x (single t [] k (ran k filing)).table
  planned k =
      ran-by (λ y. (single t [] k y).answer.number ≡ 0 → OneFiled t chain u x (single t [] k y).table) k filing
      (λ f v q.
      let names : ℕ → List (List ℕ) = λ _. w.names in
      let g = fair-wrs_plan names t [] u x.text 1 not_given not_given w (record { from = omega arith; long = refl }) in
      let z : ⊥ = omega (arith, fair-some names f (fair-refused names [] filing f g v)) in absurd z)
      (λ p v _ _. made p v)
      (λ p v _ q. let z : ⊥ = omega arith in absurd z)

pub one-filed : (t chain : List ℕ) (u k : ℕ) (x : Sheet) → Sound t → link_name x.link ≡ true → (F.filed t chain u k x).answer.number ≡ 0
    → OneFiled t chain u x (F.filed t chain u k x).table
unfolding F.filed granted
one-filed t chain u k x c l = go (course t (wrs_line chain x.link) x.text [] u)
  where
    o : Outcome
    o = requested boxed t (wrs_line chain x.link) x.text [] u k

    as-wrs : (r : Request) → Admitted t (wrs_line chain x.link) x.text u r → o ≡ granted boxed t x.text [] u k r → o.answer.number ≡ 0
        → (w : Word) → r ≡ wrs 1 not_given not_given w → chain_of w ≡ prefix chain ++ x.link ∷ [] → OneFiled t chain u x o.table
    as-wrs r h e n w q m =
        let z : o ≡ granted boxed t x.text [] u k (wrs 1 not_given not_given w) = e ∙ rw q in
        rw z (planned t chain u x c w h.user (subst (Told x.text) q h.told) m (r, h.asked) k (rw z at n))

    go : Course t (wrs_line chain x.link) x.text [] u → o.answer.number ≡ 0 → OneFiled t chain u x o.table
    go (untried f h e) n = let z : f.number ≡ 0 = rw (e k) at n in let y : ⊥ = omega (arith, fair-some (names_at (wrs_line chain x.link)) f h) in absurd y
    go (tried r h e) n = let m = wrs-names chain x.link x.text r l h.asked in as-wrs r h (e k) n m.0 m.1 m.2
