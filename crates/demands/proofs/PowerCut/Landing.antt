-- A cut plan of the right shape, mended, is the table before or the table where the stop number is not reached. So is DEL or DST in the
-- name that is cut, and a name whose stores are all made leaves a sound table: in all, the table after some first part of the names.
use mathlib.Core.List.{List, [], ◌∷◌}
use mathlib.Core.Logic.{◌⊎◌, inl, inr}
use mathlib.Core.Path.{◌≡◌, refl, sym, ◌∙◌}
use Prim.Native.Nat.{ℕ, zero, suc, ◌+◌, ◌-◌, ◌≤◌, ◌<◌}
use native.Mathlib.Omega.{arith}
use lib.ListN.{length, take}
use Rattle.paper.specs.Layout.{boxed}
use Rattle.paper.specs.Line.{Word}
use Rattle.paper.specs.Walk.{file}
use Rattle.paper.specs.Store.{run}
use Rattle.paper.specs.Effect.{Plan, Planned, plan, emptied, rewrite_plan}
use Rattle.paper.specs.Mend.{mended}
use Rattle.paper.specs.Answer.{Outcome, Ran, ran, single, one_name, deleting}
use Rattle.demands.proofs.Sound.Right.{Right}
use Rattle.demands.proofs.Request.Several.{Several, deletion, destruction, plan_of}
use Rattle.demands.proofs.Request.Ended.{Passed, ran-by, passes}
use Rattle.demands.proofs.SoundKept.Kept.{Keeps, passed-sound, del-keeps, named-keeps}
use Rattle.demands.proofs.SoundKept.Told.{emptied-right}
use Rattle.demands.proofs.SoundKept.Rewriting.{Granted, rewrite-granted, rewrite-keeps}
use Rattle.demands.proofs.Mending.Debris.{sound-keeps, mended-sound}
use Rattle.demands.proofs.PowerCut.Cut.{Shaped, Cut, power-cut}
use Rattle.demands.proofs.PowerCut.Remade.{cut-first, cut-half, emptied-again}
use Rattle.demands.proofs.PowerCut.Plans.{Safe, del-safe}
use Rattle.demands.proofs.PowerCut.Razing.{passed-razed}

-- x is the table after, of outcomes by stop number: at some stop number the answer is 0 and the table x
pub record Done (o : ℕ → Outcome) (x : List ℕ) : Type 0 where
  pub stop : ℕ
  pub number : (o stop).answer.number ≡ 0
  pub table : x ≡ (o stop).table

-- a plan of the right shape whose checks pass
pub passed-shaped : (t : List ℕ) (x : Planned) (p : Plan) → Safe t x → Passed x p → Shaped t p.stores
passed-shaped t x p h v = let s : Safe t (plan p) = rw v.plan at h in s v.checks

pub passed-cut : (t : List ℕ) → Right t → (x : Planned) (p : Plan) → Safe t x → Keeps t x → Passed x p → (k : ℕ) → Cut t p.stores k
passed-cut t c x p h g v = power-cut t p.stores c.clauses.whole (sound-keeps t c) (sound-keeps _ (passed-sound t x p g v)) (passed-shaped t x p h v)

-- ---- one plan

module _ (t reply : List ℕ) (x : Planned) where
  -- the outcome by stop number
  abbrev run-to : ℕ → Outcome
  run-to k = single t reply k (ran k x)

  at_once : (p : Plan) → Passed x p → Done run-to (run t p.stores)
  at_once p v =
      let q = passes (length p.stores) x p v (omega arith) in
      record { stop = length p.stores; number = rw q; table = rw q }

module _ (t reply : List ℕ) (c : Right t) (x : Planned) (safe : Safe t x) (sure : Keeps t x) where
  -- the table before, or the table after; sound in either case
  abbrev Either : List ℕ → Type 0
  Either y = Right y × ((y ≡ t) ⊎ Done (run-to t reply x) y)

  landed : (y : List ℕ) (p : Plan) → Passed x p → (y ≡ t) ⊎ (y ≡ run t p.stores) → Either y
  landed y p v (inl q) = (rw q c, inl q)
  landed y p v (inr q) = (rw q (passed-sound t x p sure v), inr (rw q (at_once t reply x p v)))

  pub single-cut : (k : ℕ) → Either (mended (run-to t reply x k).table)
  single-cut k =
      ran-by (λ y. Either (mended (single t reply k y).table)) k x
      (λ f _. let z : mended t ≡ t = mended-sound t c in (rw z c, inl z))
      (λ p v l. landed _ p v (inr (mended-sound (run t p.stores) (passed-sound t x p sure v))))
      (λ p v l. landed _ p v (passed-cut t c x p safe sure v k).lands)

-- ---- `WRS*`

module _ (t reply : List ℕ) (c : Right t) (u : ℕ) (text : List ℕ) (name : Word) (short : length text ≤ 24000) where
  abbrev rewriter : Planned
  rewriter = rewrite_plan boxed t u text name

  -- y is the table before; the table after; or, of a plan whose checks pass, the table with the file marked and empty
  pub data Remakes (y : List ℕ) : Type 0 where
    unmade : y ≡ t → Remakes y
    remade : Done (run-to t reply rewriter) y → Remakes y
    half : (p : Plan) (g : Granted t u text name p) → Done (run-to t reply rewriter) (run t p.stores) → y ≡ emptied t (file t g.end)
        → y ≡ emptied (run t p.stores) (file t g.end) → Remakes y

  cut_off_lem : (k : ℕ) (p : Plan) → Passed rewriter p → (g : Granted t u text name p) → k < length p.stores
      → Right (mended (run t (take k p.stores))) × Remakes (mended (run t (take k p.stores)))
  cut_off_lem zero p v g l =
      let z : mended (run t (take 0 p.stores)) ≡ t = cut-first t (file t g.end) text c.clauses g.fit c.counts in
      (rw z c, unmade z)
  cut_off_lem (suc k) p v g l =
      let h : ℕ = file t g.end in
      let z : mended (run t (take (suc k) p.stores)) ≡ emptied t h =
      rw g.stores (cut-half t h text c.clauses g.fit c.counts (suc k) (omega arith) (rw g.stores at l)) in
      let e : emptied (run t p.stores) h ≡ emptied t h = rw g.stores (emptied-again t h text c.clauses g.fit) in
      (rw z (emptied-right t h c g.fit.file), half p g (at_once t reply rewriter p v) z (z ∙ sym e))

  pub rewrite-cut : (k : ℕ) → Right (mended (run-to t reply rewriter k).table) × Remakes (mended (run-to t reply rewriter k).table)
  rewrite-cut k =
      ran-by (λ y. Right (mended (single t reply k y).table) × Remakes (mended (single t reply k y).table)) k rewriter
      (λ f _. let z : mended t ≡ t = mended-sound t c in (rw z c, unmade z))
      (λ p v l.
      let s = passed-sound t rewriter p (rewrite-keeps t c.clauses u text name short c.counts) v in
      let z = mended-sound (run t p.stores) s in
      (rw z s, remade (rw z (at_once t reply rewriter p v))))
      (λ p v l. cut_off_lem k p v (rewrite-granted t c.clauses u text name short p v) l)

-- ---- DEL and DST, name by name

-- one name whose checks pass, cut anywhere
pub named-cut : (s : Several) (t : List ℕ) → Right t → (u place : ℕ) (w : Word) (p : Plan) → Passed (plan_of s t u place w) p → (k : ℕ) → Cut t p.stores k
named-cut deletion t c u place w p v =
    passed-cut t c (plan_of deletion t u place w) p (del-safe t c.clauses u place w) (del-keeps t u place w c.clauses) v
named-cut destruction t c u place w p v = passed-razed t c u place w p v

-- x is sound, and the table after some first part of the names
pub record Parted (s : Several) (t : List ℕ) (u : ℕ) (reply : List ℕ) (n made : ℕ) (ws : List Word) (x : List ℕ) : Type 0 where
  pub sound : Right x
  pub names : ℕ
  pub most : names ≤ length ws
  pub done : Done (λ k. deleting (plan_of s) t u reply k n made (take names ws)) x

module _ (s : Several) (u : ℕ) (reply : List ℕ) where
  no_name : (t : List ℕ) (n made : ℕ) (ws : List Word) (x : List ℕ) → Right t → x ≡ t → Parted s t u reply n made ws x
  unfolding deleting
  no_name t n made ws x c q =
      rw q (record { sound = c; names = 0; most = omega arith; done = record { stop = 0; number = refl; table = refl } })

  module _ (t : List ℕ) (n made : ℕ) (w : Word) (p : Plan) (v : Passed (plan_of s t u (n + 1) w) p) where
    -- the table and the numbers after the name
    abbrev t₁ : List ℕ
    t₁ = run t p.stores

    abbrev m : ℕ
    m = length p.stores

    name-made : (ws : List Word) (k : ℕ) → m ≤ k
        → deleting (plan_of s) t u reply k n made (w ∷ ws) ≡ deleting (plan_of s) t₁ u reply (k - m) (n + 1) (made + m) ws
    unfolding deleting
    name-made ws k l = rw (passes k (plan_of s t u (n + 1) w) p v l)

    one_more : (ws : List Word) (x : List ℕ) → Parted s t₁ u reply (n + 1) (made + m) ws x → Parted s t u reply n made (w ∷ ws) x
    one_more ws x d = record { sound = d.sound; names = suc d.names; most = omega (arith, d.most); done = after d.done }
      where
        front : List Word
        front = take d.names ws

        after : Done (λ k. deleting (plan_of s) t₁ u reply k (n + 1) (made + m) front) x → Done (λ k. deleting (plan_of s) t u reply k n made (w ∷ front)) x
        after a =
            let q : m + a.stop - m ≡ a.stop = omega arith in
            let y : deleting (plan_of s) t u reply (m + a.stop) n made (w ∷ front) ≡ deleting (plan_of s) t₁ u reply a.stop (n + 1) (made + m) front =
            name-made front (m + a.stop) (omega arith) ∙ rw q in
            record { stop = m + a.stop; number = rw y a.number; table = rw y a.table }

  pub del-cut : (ws : List Word) (t : List ℕ) → Right t → (k n made : ℕ)
      → Parted s t u reply n made ws (mended (deleting (plan_of s) t u reply k n made ws).table)
  unfolding deleting
  del-cut [] t c k n made = no_name t n made [] (mended t) c (mended-sound t c)
  del-cut (w ∷ ws) t c k n made = go (λ p. del-cut ws (run t p.stores))
    where
      x : Planned
      x = plan_of s t u (n + 1) w

      sure : Keeps t x
      sure = named-keeps s t u (n + 1) w c.clauses

      -- the table after the plan has ended so, mended
      after : Ran → List ℕ
      after y = mended (one_name t reply k n made (λ t₁ k₁ n₁ made₁. deleting (plan_of s) t₁ u reply k₁ n₁ made₁ ws) y).table

      cut-here : (p : Plan) → Passed x p → (y : List ℕ) → (y ≡ t) ⊎ (y ≡ run t p.stores) → Parted s t u reply n made (w ∷ ws) y
      cut-here p v y (inl z) = no_name t n made (w ∷ ws) y c z
      cut-here p v y (inr z) =
          one_more t n made w p v ws y
          (no_name (run t p.stores) (n + 1) (made + length p.stores) ws y (passed-sound t x p sure v) z)

      go : ((p : Plan) → Right (run t p.stores) → (k n made : ℕ)
          → Parted s (run t p.stores) u reply n made ws (mended (deleting (plan_of s) (run t p.stores) u reply k n made ws).table))
          → Parted s t u reply n made (w ∷ ws) (after (ran k x))
      go rest =
          ran-by (λ y. Parted s t u reply n made (w ∷ ws) (after y)) k x
          (λ f _. no_name t n made (w ∷ ws) _ c (mended-sound t c))
          (λ p v l. one_more t n made w p v ws _ (rest p (passed-sound t x p sure v) (k - length p.stores) (n + 1) (made + length p.stores)))
          (λ p v l. cut-here p v _ (named-cut s t c u (n + 1) w p v k).lands)
