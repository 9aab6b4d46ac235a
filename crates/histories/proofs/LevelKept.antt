-- "Copies must not drop a level": the one heading that a CPY lays has the level of its source, or a declared one that 25 lets through; a
-- heading that stays keeps its level, since only its code, mark, length and counts are laid anew. So from copy to copy the level never falls.
use mathlib.Core.Bool.{true, false}
use mathlib.Core.List.{List, [], ◌∷◌, ◌++◌}
use mathlib.Core.Logic.{◌⊎◌, inl, inr, ◌≢◌, by_cases}
use mathlib.Core.Path.{◌≡◌, refl, sym, ◌∙◌}
use Prim.Native.Nat.{ℕ, ◌-◌, ◌≤◌, ◌<◌}
use native.Mathlib.Omega.{arith}
use native.Mathlib.Decide.{dec_le}
use lib.ListN.{length, take}
use lib.Seq.{take-append-le, get_or-set_other}
use borrow.Author.Tests.{eqb-true, eq-eqb, ltb-false}
use Rattle.paper.specs.Scan.{Found, at, nowhere}
use Rattle.paper.specs.Record.{byte, level, lifetime, blank, heading_record}
use Rattle.paper.specs.Layout.{boxed}
use Rattle.paper.specs.Table.{sized, rooms, rec, room}
use Rattle.paper.specs.Declaration.{Part, or_else}
use Rattle.paper.specs.Line.{Word}
use Rattle.paper.specs.Check.{passed, verdict}
use Rattle.paper.specs.Request.{Request, request, cpy}
use Rattle.paper.specs.Sound.{sound}
use Rattle.paper.specs.Block.{block, file_text}
use Rattle.paper.specs.Walk.{State, start, file, arrived, ended, last_name}
use Rattle.paper.specs.Store.{Store, puts, run}
use Rattle.paper.specs.Count.{recounted, recounts}
use Rattle.paper.specs.Effect.{Plan, Planned, plan, halted, chain_of, Making, borne, placing, freed, with_counts, lost, settled, making, new_file, filing, recoded, cpy_plan, list_of, begun}
use Rattle.paper.specs.Answer.{ran, single, granted, requested}
use Rattle.laws.proofs.Tests.{not-both, either}
use Rattle.laws.proofs.Lists.{Every, every_append, every-imp, every_take, every-each, take_past}
use Rattle.laws.proofs.Fields.{text-record-kind, entry-record-kind, length-heading, length-entry}
use Rattle.laws.proofs.Rewritten.{rewritten-byte}
use Rattle.laws.proofs.Lay.{Whole, within, length-rec, kind-blank}
use Rattle.laws.proofs.Runs.{Lays, run-each, run-append, rooms-run}
use Rattle.laws.proofs.Recounts.{Recount, every-recounts}
use Rattle.demands.proofs.Sound.Clauses.{Sound, sound-clauses}
use Rattle.demands.proofs.Sound.Right.{sound-right}
use Rattle.demands.proofs.Mending.Part.{Alike, equal, Below, free, stays}
use Rattle.demands.proofs.Mending.Counts.{alike-byte, but-byte, but-recount}
use Rattle.demands.proofs.Request.Fair.{verdict-idle}
use Rattle.demands.proofs.Request.Course.{Admitted, Course, untried, tried, course}
use Rattle.demands.proofs.Request.Ended.{Passed, ran-by}
use Rattle.demands.proofs.Request.Steps.{holder-by}
use Rattle.demands.proofs.SoundKept.Retexted.{mine-not}
use Rattle.histories.specs.History.{Call, asks, mends, sweeps, called, cut_at, after, heads}
use Rattle.histories.specs.Copy.{CopyOf, Copies, Descends}
use Rattle.histories.proofs.Calls.Stores.{Put, heading, text, entry, cleared, recodes, rewrites, retexts, again}
use Rattle.histories.proofs.Calls.Falls.{falls-less, falls-take}
use Rattle.histories.proofs.Calls.Anywhere.{Fits, fit-each, file-fits}
use Rattle.histories.proofs.Calls.Shapes.{Shape, cpy-shape}
use Rattle.histories.proofs.Calls.Requests.{passed-shaped, shaped-fits}
use Rattle.histories.proofs.Calls.Mendable.{Mendable, mendable-whole, sound-mendable, called-mendable}
use Rattle.histories.proofs.BetweenStores.{Stored, between-stores}

-- ---- a heading that stays

-- what is laid over a heading has its level
put-level : (t : List ℕ) (h : ℕ) (r : List ℕ) → byte (rec t h) 0 ≡ 1 → Put t h r → level r ≡ level (rec t h)
unfolding recoded
put-level t h r k (heading a b) = let z : ⊥ = omega arith in absurd z
put-level t h r k (text a b d) = let z : ⊥ = omega arith in absurd z
put-level t h r k (entry (inl a) b) = let z : ⊥ = omega arith in absurd z
put-level t h r k (entry (inr a) b) = let z : ⊥ = omega arith in absurd z
put-level t h r k (cleared a b) = let z : ⊥ = omega arith in absurd z
put-level t h r k (recodes code b a w x q) = rw q (get_or-set_other (rec t h) 3 2 code 0 (omega arith))
put-level t h r k (rewrites mark n b a w q) = rw q (rewritten-byte (rec t h) mark n 2 (omega arith, inl (omega arith)))
put-level t h r k (retexts g a w m n) = absurd (mine-not g (rec t h) 1 m (omega arith) (omega arith) k)
put-level t h r k (again b) = but-byte (rec t h) r b 2 (omega arith)

-- after any stores of a call a record is as it was, or laid, but for counts; or cleared
abbrev Stands : List ℕ → List ℕ → ℕ → Type 0
Stands t s i = ((r : List ℕ) × ((r ≡ rec t i) ⊎ Put t i r) × Alike r (rec s i)) ⊎ (rec s i ≡ blank)

stored-each : (t : List ℕ) (o : ℕ → List ℕ) → Stored t o → (k i : ℕ) → i < rooms t → Stands t (o k) i
stored-each t o d k i l =
    rw (d.tables k)
    (by_cases (dec_le k (length d.first))
    (λ (x : k ≤ length d.first).
    rw (take-append-le k d.first d.last x)
    (inl (_, run-each (Put t) t (take k d.first) (every_take _ k d.first d.puts) i l, equal refl)))
    (λ (x : ¬ (k ≤ length d.first)).
    rw (take_past k d.first d.last (omega arith), run-append) (past (k - length d.first))))
  where
    m : List ℕ
    m = run t d.first

    past : (j : ℕ) → Stands t (run m (take j d.last)) i
    past j = go ((falls-less (take j d.last) m (falls-take j d.last m d.falls)).each i (rw (rooms-run t d.first) l))
      where
        go : Below (rec m i) (rec (run m (take j d.last)) i) → Stands t (run m (take j d.last)) i
        go (stays a) = inl (rec m i, run-each (Put t) t d.first d.puts i l, a)
        go (free e) = inr e

-- a heading before a call and after it has its level
pub level-stays : (t : List ℕ) (h : ℕ) (c : Call) (k : ℕ) → Mendable t → heads h t ≡ true → heads h (called t (cut_at k c)).table ≡ true
    → level (rec (called t (cut_at k c)).table h) ≡ level (rec t h)
level-stays t h c k m a b =
    let i : byte (rec t h) 0 ≡ 1 = eqb-true _ _ a in
    let j : byte (rec (called t (cut_at k c)).table h) 0 ≡ 1 = eqb-true _ _ b in
    go i j (stored-each t (λ k. (called t (cut_at k c)).table) (between-stores t c) k h (within t h (mendable-whole t m) (omega arith)))
  where
    laid : (r : List ℕ) → byte (rec t h) 0 ≡ 1 → (r ≡ rec t h) ⊎ Put t h r → level r ≡ level (rec t h)
    laid r i (inl e) = rw e
    laid r i (inr p) = put-level t h r i p

    go : byte (rec t h) 0 ≡ 1 → byte (rec (called t (cut_at k c)).table h) 0 ≡ 1 → Stands t (called t (cut_at k c)).table h
        → level (rec (called t (cut_at k c)).table h) ≡ level (rec t h)
    go i j (inl (r, p, a)) = alike-byte r (rec (called t (cut_at k c)).table h) a 2 (omega arith) ∙ laid r i p
    go i j (inr e) = let z : ⊥ = omega (arith, kind-blank _ e) in absurd z

-- ---- a copy

-- a heading that is laid where none was has at least this level
abbrev Raised : ℕ → List ℕ → ℕ → List ℕ → Type 0
Raised lev t i r = byte r 0 ≡ 1 → byte (rec t i) 0 ≢ 1 → lev ≤ level r

abbrev Raises : ℕ → List ℕ → Store → Type 0
Raises lev t x = Raised lev t x.at x.bytes

freed-raises : (lev : ℕ) (t : List ℕ) (h : ℕ) → Every (Raises lev t) (freed t h)
unfolding freed blank
freed-raises lev t h = (λ k _. omega arith, every-each (Raises lev t) _ _ (λ p _ k _. omega arith))

file-raises : (lev : ℕ) (t head body : List ℕ) → lev ≤ level head → Every (Raises lev t) (new_file t head body)
unfolding new_file
file-raises lev t head body l = (
  λ _ _. l,
  every-each (Raises lev t) _ _ (λ p _ k _. let z : ⊥ = omega (arith, k, text-record-kind (room t 0) p (block body p)) in absurd z),
)

-- with the counts: a heading keeps its level
counted-raises : (lev : ℕ) (t : List ℕ) (ss : List Store) → Whole t → Every Fits ss → Every (Raises lev t) ss → Every (Raises lev t) (with_counts t ss)
counted-raises lev t ss w f h =
    every_append (Raises lev t) ss (recounts m) h (every-imp (Lays (Recount m) (rooms m)) (Raises lev t) (recounts m) one (every-recounts m))
  where
    m : List ℕ
    m = run t ss

    at : (i : ℕ) → (rec m i ≡ rec t i) ⊎ Raised lev t i (rec m i) → byte (rec m i) 0 ≡ 1 → byte (rec t i) 0 ≢ 1 → lev ≤ level (rec m i)
    at i (inl e) k n = absurd (n (rw e at k))
    at i (inr p) k n = p k n

    one : (x : Store) → Lays (Recount m) (rooms m) x → Raises lev t x
    one x c _ n =
        let i : ℕ = x.at in
        let k : byte (rec m i) 0 ≡ 1 = c.holds.1.0 in
        let e : level (recounted m i (rec m i)) ≡ level (rec m i) =
        but-byte (rec m i) (recounted m i (rec m i)) (but-recount m i (rec m i) (length-rec m i c.within) k) 2 (omega arith) in
        rw (c.holds.0, e) (at i (fit-each (Raised lev t) ss t w f h i) k n)

placing-raises : (lev : ℕ) (t : List ℕ) (m : Making) → Whole t → Every Fits m.first → Every (Raises lev t) m.first → length m.entry ≡ 32
    → byte m.entry 0 ≡ 2 → (x : Found) → Every (Raises lev t) (placing t m x)
unfolding settled
placing-raises lev t m w f h size k = go
  where
    with-entry : (e : ℕ) → Every (Raises lev t) (with_counts t (m.first ++ puts e m.entry ∷ []))
    with-entry e =
        counted-raises lev t (m.first ++ puts e m.entry ∷ []) w (every_append Fits m.first _ f (size, tt))
        (every_append (Raises lev t) m.first _ h (λ z _. omega arith, tt))

    go : (x : Found) → Every (Raises lev t) (placing t m x)
    go (at e) =
        every_append (Raises lev t) (with_counts t (m.first ++ puts e m.entry ∷ [])) _ (with-entry e)
        (either (Every (Raises lev t)) (lost t e m.entry) _ _ (freed-raises lev t _) tt)
    go nowhere = with-entry (room t (length m.first))

-- the plan, where its checks pass
abbrev Raising : ℕ → List ℕ → Planned → Type 0
Raising lev t (halted f) = Unit {0}
Raising lev t (plan p) = verdict p.checks ≡ passed → Every (Raises lev t) p.stores

-- CPY of the file that s came to
copy-raises : (t : List ℕ) → Whole t → (v u : ℕ) (old new : Word) (life lev code : Part) (d s : State)
    → ended boxed t (start v) (chain_of old) ≡ arrived d s → Raising (level (rec t (file t s))) t (cpy_plan boxed t v u old new life lev code)
unfolding cpy_plan making heading_record
copy-raises t w v u old new life lev code d s e =
    rw e (holder-by (Raising (level (rec t (file t s))) t) 2 (λ _ _ _. tt) t u new _ (λ q _ x.
    let source : List ℕ = rec t (file t s) in
    let body : List ℕ = file_text t (file t s) in
    let head : List ℕ = heading_record 1 (or_else lev (level source)) (or_else code 0) (or_else life (lifetime source)) (length body) in
    let m : Making = filing boxed t 2 new q (or_else code 0) head body in
    placing-raises _ t m w (file-fits t head body (length-heading 1 (or_else lev (level source)) (or_else code 0) (or_else life (lifetime source)) (length body)))
    (file-raises _ t head body (ltb-false _ _ (verdict-idle _ x).1.1.1.1.1.1.1.0))
    (length-entry (or_else code 0) q.holder.heading (room t 0) q.holder.user (last_name (chain_of new)))
    (entry-record-kind (or_else code 0) q.holder.heading (room t 0) q.holder.user (last_name (chain_of new))) (borne boxed t m)))

-- after some stores of such a plan, a heading that was none has at least that level
new-level : (t : List ℕ) → Whole t → (lev : ℕ) (ss : List Store) → Every Fits ss → Every (Raises lev t) ss
    → (n : ℕ) → byte (rec t n) 0 ≢ 1 → byte (rec (run t ss) n) 0 ≡ 1 → lev ≤ level (rec (run t ss) n)
new-level t w lev ss f h n a b = go (fit-each (Raised lev t) ss t w f h n)
  where
    go : (rec (run t ss) n ≡ rec t n) ⊎ Raised lev t n (rec (run t ss) n) → lev ≤ level (rec (run t ss) n)
    go (inl e) = absurd (a (rw e at b))
    go (inr p) = p b a

single-level : (t reply : List ℕ) (k : ℕ) → Sound t → (lev : ℕ) (x : Planned) → Shape false t x → Raising lev t x → (n : ℕ) → byte (rec t n) 0 ≢ 1
    → byte (rec (single t reply k (ran k x)).table n) 0 ≡ 1 → lev ≤ level (rec (single t reply k (ran k x)).table n)
single-level t reply k c lev x h r n a =
    ran-by (λ y. byte (rec (single t reply k y).table n) 0 ≡ 1 → lev ≤ level (rec (single t reply k y).table n)) k x
    (λ _ _ b. absurd (a b))
    (λ p v _ b. new-level t c.whole lev p.stores (fits p v) (raises p v) n a b)
    (λ p v _ b. new-level t c.whole lev (take k p.stores) (every_take _ k p.stores (fits p v)) (every_take _ k p.stores (raises p v)) n a b)
  where
    fits : (p : Plan) → Passed x p → Every Fits p.stores
    fits p v = shaped-fits false t c p.stores (passed-shaped false t x p h v)

    raises : (p : Plan) → Passed x p → Every (Raises lev t) p.stores
    raises p v = let s : Raising lev t (plan p) = rw v.plan at r in s v.checks

-- "a copy's level must be at least its source's": a CPY, whole or cut, lays no heading with a level below that of the file it copies,
-- be a level declared or not
pub no-copy-drops : (t line body reply : List ℕ) (u k h n : ℕ) → CopyOf t line body u h → heads n t ≡ false
    → heads n (requested boxed t line body reply u k).table ≡ true → level (rec t h) ≤ level (rec (requested boxed t line body reply u k).table n)
unfolding granted
no-copy-drops t line body reply u k h n q a b = go (course t line body reply u)
  where
    laid : byte (rec (requested boxed t line body reply u k).table n) 0 ≡ 1
    laid = eqb-true _ _ b

    new : byte (rec t n) 0 ≢ 1
    new e = not-both (eq-eqb _ _ e) a

    copy : Request
    copy = cpy q.from q.old q.new q.life q.lev q.code

    tries : (r : Request) → r ≡ copy → Admitted t line body u r → ((k : ℕ) → requested boxed t line body reply u k ≡ granted boxed t body reply u k r)
        → level (rec t h) ≤ level (rec (requested boxed t line body reply u k).table n)
    tries r e m p =
        let c = sound-clauses t m.sized m.sound in
        let v : ℕ = list_of u q.from in
        let w : Word = begun q.from q.old in
        let x : Planned = cpy_plan boxed t v u w q.new q.life q.lev q.code in
        let y : requested boxed t line body reply u k ≡ single t reply k (ran k x) = rw e at (p k) in
        rw (y, ← q.is)
        (single-level t reply k c (level (rec t (file t q.source))) x
        (cpy-shape t c v u w q.new q.life q.lev q.code)
        (copy-raises t c.whole v u w q.new q.life q.lev q.code q.directory q.source q.end) n new (rw y at laid))

    go : Course t line body reply u → level (rec t h) ≤ level (rec (requested boxed t line body reply u k).table n)
    go (untried f g e) = absurd (not-both b (rw (e k) a))
    go (tried r m e) = let y : request r ≡ request copy = sym m.asked ∙ q.asked in let z : r ≡ copy = cc in tries r z m e

-- ---- over a history

-- a file, or a copy of a copy of it, has at least its level, whatever was asked between
pub level-kept : (t : List ℕ) (h n : ℕ) (cs : List Call) → sized t ≡ true → sound boxed t ≡ true → heads h t ≡ true → Descends t h cs n
    → level (rec t h) ≤ level (rec (after t cs) n)
unfolding after Descends
level-kept t h n cs a b = from-here cs t h (sound-mendable t (sound-right t a b))
  where
    from-here : (cs : List Call) (t : List ℕ) (h : ℕ) → Mendable t → heads h t ≡ true → Descends t h cs n → level (rec t h) ≤ level (rec (after t cs) n)
    from-here [] t h m i d = rw d (omega arith)
    from-here (c ∷ cs) t h m i (inl (j, d)) =
        rw (← (same c j)) (from-here cs (called t c).table h (called-mendable t c m) j d)
      where
        same : (c : Call) → heads h (called t c).table ≡ true → level (rec (called t c).table h) ≡ level (rec t h)
        same (asks line body reply u k) j = level-stays t h (asks line body reply u k) k m i j
        same (mends k) j = level-stays t h (mends k) k m i j
        same (sweeps k) j = level-stays t h (sweeps k) k m i j
    from-here (c ∷ cs) t h m i (inr (g, x, d)) = copied c x d (from-here cs (called t c).table g (called-mendable t c m))
      where
        copied : (c : Call) → Copies t c h g → Descends (called t c).table g cs n
            → (heads g (called t c).table ≡ true → Descends (called t c).table g cs n
            → level (rec (called t c).table g) ≤ level (rec (after (called t c).table cs) n))
            → level (rec t h) ≤ level (rec (after (called t c).table cs) n)
        copied (asks line body reply u k) (q, e, j) d r = omega (arith, no-copy-drops t line body reply u k h g q e j, r j d)
        copied (mends k) x d r = absurd x
        copied (sweeps k) x d r = absurd x
