-- One call on two such tables: the same answer, the same reply, and two such tables. A request goes by the same plan, or is refused alike;
-- a mend or a sweep clears the same records; and both tables are sound, or neither is, since what a mend would clear is the same.
use mathlib.Core.Bool.{true, false}
use mathlib.Core.List.{List, [], ◌∷◌}
use mathlib.Core.Logic.{◌⊎◌, inl, inr}
use mathlib.Core.Path.{◌≡◌, refl, sym, ◌∙◌}
use Prim.Native.Nat.{ℕ, ◌+◌, ◌-◌}
use native.Mathlib.Omega.{arith}
use lib.Dec.{leb}
use lib.ListN.{length, take}
use lib.Seq.{take-length}
use borrow.Author.Tests.{eqb-true, not-false}
use Rattle.paper.specs.Record.{byte, heading_code}
use Rattle.paper.specs.Layout.{boxed}
use Rattle.paper.specs.Table.{sized, rooms, rec}
use Rattle.paper.specs.Line.{Word}
use Rattle.paper.specs.Check.{Refusal, Verdict, passed, refused}
use Rattle.paper.specs.Request.{Request, crd, wrs, rds, cpy, dup, chn, del, dst, dpr, lst, lst_base, lst_tree, lst_base_tree, rewrite, Read, request, unread, asked}
use Rattle.paper.specs.Code.{no_read}
use Rattle.paper.specs.Sound.{sound}
use Rattle.paper.specs.Store.{Store, run}
use Rattle.paper.specs.Effect.{Planned, crd_plan, wrs_plan, rds_plan, cpy_plan, dup_plan, chn_plan, dpr_plan, lst_plan, lst_base_plan, lst_tree_plan, lst_base_tree_plan, rewrite_plan, list_of, begun}
use Rattle.paper.specs.Mend.{mend_stores, mended}
use Rattle.paper.specs.Answer.{Outcome, refusing, ran, single, one_name, deleting, granted, entrance, acted, admitted, requested, mendable, mend_run, mending}
use Rattle.paper.specs.Index.{true_index}
use Rattle.paper.specs.Sweep.{sweep_stores, sweepable}
use Rattle.laws.proofs.Tests.{truth, same_truth}
use Rattle.laws.proofs.Lists.{Every, every_take}
use Rattle.laws.proofs.Runs.{length_run}
use Rattle.demands.proofs.Sound.Clauses.{Sound, sound-clauses}
use Rattle.demands.proofs.Sound.Right.{sound-right, right-sound}
use Rattle.demands.proofs.Request.Fair.{verdict-idle}
use Rattle.demands.proofs.Request.Read.{Told, Right, read_right}
use Rattle.demands.proofs.Request.Several.{Several, deletion, destruction, plan_of}
use Rattle.demands.proofs.Request.Ended.{ran-by, refuses}
use Rattle.demands.proofs.SoundKept.Kept.{passed-sound, named-keeps}
use Rattle.demands.proofs.Mending.Counts.{alike-kind, alike-byte}
use Rattle.demands.proofs.Mending.Again.{mend-tidies}
use Rattle.demands.proofs.Mending.Debris.{nothing-to-mend, sound-keeps}
use Rattle.sweep_demands.proofs.Again.{sweep-tidies}
use Rattle.index_laws.proofs.Good.{is_true_lem}
use Rattle.histories.specs.History.{Call, asks, mends, sweeps, called, heads}
use Rattle.histories.proofs.Calls.Stores.{less-stays}
use Rattle.histories.proofs.Calls.Shapes.{Shape, crd-shape, wrs-shape, cpy-shape, dup-shape, chn-shape, dpr-shape, rds-shape, lst-shape, lst-base-shape, lst-tree-shape, lst-base-tree-shape, rewrite-shape}
use Rattle.histories.proofs.Calls.Falls.{Falls, falls-less, falls-take, mend-falls, sweep-falls}
use Rattle.histories.proofs.Calls.Anywhere.{Fits, lays-fit}
use Rattle.histories.proofs.Calls.Requests.{razes, named-shape, passed-shaped}
use Rattle.histories.proofs.Calls.Sweeps.{sweep-run}
use Rattle.histories.proofs.Calls.Mendable.{Mendable, mendable-whole}
use Rattle.histories.proofs.SealStays.Veils.{Veil, run-veil, mend-veil, sweep-veil}
use Rattle.histories.proofs.SealStays.Plans.{Same, one, neither, crd-same, wrs-same, cpy-same, dup-same, chn-same, dpr-same, named-same, rds-same, lst-same, lst-base-same, lst-tree-same, lst-base-tree-same, rewrite-same}
use Rattle.histories.proofs.SealStays.Stays.{Sealed, Hidden, equal, veiled, gone-equal, stores-hidden, all-hidden}

-- two outcomes that show the same, over tables that differ in a sealed text alone
pub record Agree (h : ℕ) (o p : Outcome) : Type 0 where
  pub answer : p.answer ≡ o.answer
  pub reply : p.reply ≡ o.reply
  pub tables : Hidden h o.table p.table

agree_refl : (h : ℕ) (o : Outcome) → Agree h o o
agree_refl h o = record { answer = refl; reply = refl; tables = equal refl }

-- ---- a request, the heading sealed

module _ (h : ℕ) (t s reply : List ℕ) (v : Veil h t s) (c : Sound t) (k : byte (rec t h) 0 ≡ 1) (n : no_read (heading_code (rec t h)) ≡ true) where
  still : Hidden h t s
  still = veiled v (λ _. n)

  single-agree : (j : ℕ) (x y : Planned) → Shape false t x → Same x y → Agree h (single t reply j (ran j x)) (single s reply j (ran j y))
  single-agree j x y d (neither f a b) = rw (refuses j x f a, refuses j y f b) (record { answer = refl; reply = refl; tables = still })
  single-agree j x y d (one e) =
      rw e (ran-by (λ z. Agree h (single t reply j z) (single s reply j z)) j x
      (λ f _. record { answer = refl; reply = refl; tables = still })
      (λ p q _. record { answer = refl; reply = refl; tables = all-hidden h t c k n false s v p.stores (passed-shaped false t x p d q) })
      (λ p q _. record { answer = refl; reply = refl; tables = stores-hidden h t c k n false s v p.stores (passed-shaped false t x p d q) j }))

-- DEL and DST, from name to name
del-agree : (b : Several) (h : ℕ) (ws : List Word) (t s : List ℕ) (u : ℕ) (reply : List ℕ) (k n made : ℕ) → Sound t → Sound s → Hidden h t s
    → Agree h (deleting (plan_of b) t u reply k n made ws) (deleting (plan_of b) s u reply k n made ws)
unfolding deleting
del-agree b h [] t s u reply k n made c d q = record { answer = refl; reply = refl; tables = q }
del-agree b h (w ∷ ws) t s u reply k n made c d (equal e) = rw e (agree_refl h _)
del-agree b h (w ∷ ws) t s u reply k n made c d (veiled v q) = go (truth (heads h t)) (λ t₁ s₁. del-agree b h ws t₁ s₁ u reply)
  where
    x : Planned
    x = plan_of b t u (n + 1) w

    y : Planned
    y = plan_of b s u (n + 1) w

    more : List ℕ → ℕ → ℕ → ℕ → Outcome
    more t₁ k₁ n₁ made₁ = deleting (plan_of b) t₁ u reply k₁ n₁ made₁ ws

    Rest : Type 0
    Rest = (t₁ s₁ : List ℕ) (k₁ n₁ made₁ : ℕ) → Sound t₁ → Sound s₁ → Hidden h t₁ s₁ → Agree h (more t₁ k₁ n₁ made₁) (more s₁ k₁ n₁ made₁)

    by : (z : heads h t ≡ true) → Rest → Same x y
        → Agree h (one_name t reply k n made more (ran k x)) (one_name s reply k n made more (ran k y))
    by z rest (neither f a b) = rw (refuses k x f a, refuses k y f b) (record { answer = refl; reply = refl; tables = veiled v q })
    by z rest (one e) =
        rw e (ran-by (λ r. Agree h (one_name t reply k n made more r) (one_name s reply k n made more r)) k x
        (λ f _. record { answer = refl; reply = refl; tables = veiled v q })
        (λ p r _.
        rest (run t p.stores) (run s p.stores) (k - length p.stores) (n + 1) (made + length p.stores)
        (passed-sound t x p (named-keeps b t u (n + 1) w c) r).clauses
        (passed-sound s y p (named-keeps b s u (n + 1) w d) (rw e r)).clauses
        (all-hidden h t c (eqb-true _ _ z) (q z) (razes b) s v p.stores (passed-shaped (razes b) t x p (named-shape b t c u (n + 1) w) r)))
        (λ p r _. record {
          answer = refl;
          reply = refl;
          tables = stores-hidden h t c (eqb-true _ _ z) (q z) (razes b) s v p.stores (passed-shaped (razes b) t x p (named-shape b t c u (n + 1) w) r) k;
        }))

    go : (heads h t ≡ true) ⊎ (heads h t ≡ false) → Rest
        → Agree h (deleting (plan_of b) t u reply k n made (w ∷ ws)) (deleting (plan_of b) s u reply k n made (w ∷ ws))
    go (inl z) rest = by z rest (named-same h t s v c (q z) b u (n + 1) w)
    go (inr z) rest = rw (gone-equal h t s v c z) (agree_refl h _)

-- every request on sound tables, the heading sealed
module _ (h : ℕ) (t s text reply : List ℕ) (u j : ℕ) (v : Veil h t s) (c : Sound t) (d : Sound s) (k : byte (rec t h) 0 ≡ 1)
    (n : no_read (heading_code (rec t h)) ≡ true) where
  by-plan : (x y : Planned) → Shape false t x → Same x y → Agree h (single t reply j (ran j x)) (single s reply j (ran j y))
  by-plan = single-agree h t s reply v c k n j

  granted-agree : (r : Request) → Told text r → Agree h (granted boxed t text reply u j r) (granted boxed s text reply u j r)
  unfolding granted
  granted-agree (crd name lev code) w =
      by-plan (crd_plan boxed t u name lev code) (crd_plan boxed s u name lev code) (crd-shape t c u name lev code) (crd-same h t s v c n u name lev code)
  granted-agree (wrs life lev code name) w =
      by-plan (wrs_plan boxed t u text life lev code name) (wrs_plan boxed s u text life lev code name)
      (wrs-shape t c u text life lev code name) (wrs-same h t s v c n u text life lev code name)
  granted-agree (rds from name first count) w =
      let a : ℕ = list_of u from in
      let b : Word = begun from name in
      by-plan (rds_plan boxed t a reply b first count) (rds_plan boxed s a reply b first count) (rds-shape t c a reply b first count)
      (rds-same h t s v c n a reply b first count)
  granted-agree (cpy from old new life lev code) w =
      let a : ℕ = list_of u from in
      let b : Word = begun from old in
      by-plan (cpy_plan boxed t a u b new life lev code) (cpy_plan boxed s a u b new life lev code)
      (cpy-shape t c a u b new life lev code) (cpy-same h t s v c n a u b new life lev code)
  granted-agree (dup from old to new code) w =
      let a : ℕ = list_of u from in
      let b : Word = begun from old in
      by-plan (dup_plan boxed t a (list_of u to) to b (begun to new) code) (dup_plan boxed s a (list_of u to) to b (begun to new) code)
      (dup-shape t c a (list_of u to) to b (begun to new) code) (dup-same h t s v c n a (list_of u to) to b (begun to new) code)
  granted-agree (chn old link) w =
      by-plan (chn_plan boxed t u old link) (chn_plan boxed s u old link) (chn-shape t c u old link) (chn-same h t s v c n u old link)
  granted-agree (del names) w = del-agree deletion h names t s u reply j 0 0 c d (veiled v (λ _. n))
  granted-agree (dst names) w = del-agree destruction h names t s u reply j 0 0 c d (veiled v (λ _. n))
  granted-agree (dpr name code) w =
      by-plan (dpr_plan boxed t u name code) (dpr_plan boxed s u name code) (dpr-shape t c u name code w.code) (dpr-same h t s v c n u name code)
  granted-agree (lst from name) w =
      let a : ℕ = list_of u from in
      let b : Word = begun from name in
      by-plan (lst_plan boxed t a reply b) (lst_plan boxed s a reply b) (lst-shape t c a reply b) (lst-same h t s v c n a reply b)
  granted-agree lst_base w = by-plan (lst_base_plan boxed t u reply) (lst_base_plan boxed s u reply) (lst-base-shape t c u reply) (lst-base-same h t s v c n u reply)
  granted-agree (lst_tree from name depth) w =
      let a : ℕ = list_of u from in
      let b : Word = begun from name in
      by-plan (lst_tree_plan boxed t a reply b depth) (lst_tree_plan boxed s a reply b depth) (lst-tree-shape t c a reply b depth)
      (lst-tree-same h t s v c n a reply b depth)
  granted-agree (lst_base_tree depth) w =
      by-plan (lst_base_tree_plan boxed t u reply depth) (lst_base_tree_plan boxed s u reply depth) (lst-base-tree-shape t c u reply depth)
      (lst-base-tree-same h t s v c n u reply depth)
  granted-agree (rewrite name) w =
      by-plan (rewrite_plan boxed t u text name) (rewrite_plan boxed s u text name)
      (rewrite-shape t c u text name w.text) (rewrite-same h t s v c n u text name)

-- ---- any table of a history

-- nothing to clear: the table is its own end
sound-end : (t : List ℕ) → Mendable t → mend_stores t ≡ [] → sound boxed t ≡ true
unfolding mended run
sound-end t m e = let z : mended t ≡ t = rw e in rw z at (right-sound (mended t) m).1

module _ (h : ℕ) (t s : List ℕ) (v : Veil h t s) (m : Mendable t) (m₁ : Mendable s) where
  sized-t : sized t ≡ true
  unfolding mended
  sized-t = rw (length_run t (mend_stores t)) at (right-sound (mended t) m).0

  sized-s : sized s ≡ true
  sized-s = rw v.long sized-t

  -- both are sound, or neither
  sound-veil : sound boxed s ≡ sound boxed t
  sound-veil =
      same_truth (sound boxed s) (sound boxed t)
      (λ e. sound-end t m (sym (mend-veil h t s (mendable-whole t m) v) ∙ nothing-to-mend s (sound-keeps s (sound-right s sized-s e))))
      (λ e. sound-end s m₁ (mend-veil h t s (mendable-whole t m) v ∙ nothing-to-mend t (sound-keeps t (sound-right t sized-t e))))

  entrance-veil : (u : ℕ) → entrance boxed s u ≡ entrance boxed t u
  unfolding entrance
  entrance-veil u = rw (v.long, sound-veil)

  module _ (q : Sealed h t) where
    -- refused alike
    refuse-agree : (reply : List ℕ) (f : Refusal) → Agree h (refusing t reply f) (refusing s reply f)
    refuse-agree reply f = record { answer = refl; reply = refl; tables = veiled v q }

    -- what was read, on sound tables
    read-agree : (text reply : List ℕ) (u j : ℕ) → sound boxed t ≡ true → (x : Read) → Right text x
        → Agree h (acted boxed t text reply u j x) (acted boxed s text reply u j x)
    read-agree text reply u j e (unread f) w = refuse-agree reply f
    read-agree text reply u j e (request r) w = go (truth (heads h t))
      where
        c : Sound t
        c = sound-clauses t sized-t e

        go : (heads h t ≡ true) ⊎ (heads h t ≡ false) → Agree h (granted boxed t text reply u j r) (granted boxed s text reply u j r)
        go (inl z) = granted-agree h t s text reply u j v c (sound-clauses s sized-s (sound-veil ∙ e)) (eqb-true _ _ z) (q z) r w
        go (inr z) = rw (gone-equal h t s v c z) (agree_refl h _)

    request-agree : (line text reply : List ℕ) (u j : ℕ) → Agree h (requested boxed t line text reply u j) (requested boxed s line text reply u j)
    unfolding requested
    request-agree line text reply u j = rw (entrance-veil u) (go (entrance boxed t u) refl)
      where
        go : (x : Verdict) → entrance boxed t u ≡ x → Agree h (admitted boxed t line text reply u j x) (admitted boxed s line text reply u j x)
        go (refused f) e = refuse-agree reply f
        go passed e =
            let i : sound boxed t ≡ true = unfold entrance in not-false (sound boxed t) (verdict-idle _ e).1.0 in
            read-agree text reply u j i (asked line text) (read_right line text)

    -- stores that only take away, the same on both: every heading that is left keeps its code
    module _ (ss : List Store) (fit : Every Fits ss) (d : Falls t ss) where
      cut-hidden : (j : ℕ) → Hidden h (run t (take j ss)) (run s (take j ss))
      cut-hidden j = veiled (run-veil h (take j ss) t s (mendable-whole t m) (every_take Fits j ss fit) v) sealed
        where
          sealed : Sealed h (run t (take j ss))
          sealed z =
              let k : byte (rec (run t (take j ss)) h) 0 ≡ 1 = eqb-true _ _ z in
              let a = less-stays t (run t (take j ss)) (mendable-whole t m) (falls-less (take j ss) t (falls-take j ss t d)) h (omega arith) in
              rw (alike-byte (rec t h) (rec (run t (take j ss)) h) a 3 (omega arith)) (q (rw (alike-kind (rec t h) (rec (run t (take j ss)) h) a) at z))

      -- .. of a mend or a sweep that both allow, or both refuse
      run_agree : (j : ℕ) (x : Verdict) → Agree h (mend_run t j ss x) (mend_run s j ss x)
      run_agree j (refused f) = refuse-agree [] f
      run_agree j passed = go (truth (leb (length ss) j))
        where
          go : (leb (length ss) j ≡ true) ⊎ (leb (length ss) j ≡ false) → Agree h (mend_run t j ss passed) (mend_run s j ss passed)
          go (inl e) = rw e (record { answer = refl; reply = refl; tables = rw (take-length ss) at (cut-hidden (length ss)) })
          go (inr e) = rw e (record { answer = refl; reply = refl; tables = cut-hidden j })

    -- a mend makes the same stores on both, and so does a sweep
    mendable-veil : mendable boxed s ≡ mendable boxed t
    unfolding mendable
    mendable-veil = rw (sized-t, sized-s, (right-sound (mended t) m).1, (right-sound (mended s) m₁).1)

    mend-agree : (j : ℕ) → Agree h (mending boxed t j) (mending boxed s j)
    unfolding mending
    mend-agree j =
        rw (mendable-veil, mend-veil h t s (mendable-whole t m) v)
        (run_agree (mend_stores t) (lays-fit _ (rooms t) (mend_stores t) (mend-tidies t)) (mend-falls t) j (mendable boxed t))

    sweepable-veil : sweepable s (true_index s) ≡ sweepable t (true_index t)
    unfolding sweepable
    sweepable-veil = rw (sized-t, sized-s, sound-veil, is_true_lem s, is_true_lem t)

    sweep-agree : (j : ℕ) → Agree h (called t (sweeps j)) (called s (sweeps j))
    sweep-agree j =
        rw (sweep-run t (true_index t) j, sweep-run s (true_index s) j, sweepable-veil, sweep-veil h t s (mendable-whole t m) v)
        (run_agree (sweep_stores t) (lays-fit _ (rooms t) (sweep_stores t) (sweep-tidies t (mendable-whole t m))) (sweep-falls t) j (sweepable t (true_index t)))

-- one call, on any two tables of a history that differ in a sealed text alone
pub called-agree : (h : ℕ) (t s : List ℕ) (c : Call) → Mendable t → Mendable s → Hidden h t s → Agree h (called t c) (called s c)
called-agree h t s c m m₁ (equal e) = rw e (agree_refl h (called t c))
called-agree h t s (asks line text reply u j) m m₁ (veiled v q) = request-agree h t s v m m₁ q line text reply u j
called-agree h t s (mends j) m m₁ (veiled v q) = mend-agree h t s v m m₁ q j
called-agree h t s (sweeps j) m m₁ (veiled v q) = sweep-agree h t s v m m₁ q j
