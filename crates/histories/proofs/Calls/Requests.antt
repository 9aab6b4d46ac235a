-- A request on a sound table, cut anywhere or whole: it moves the table as its plan's stores do; DEL and DST go from name to name, and since
-- they only take away, a heading of the last table is one of each before, and a name that is gone stays gone.
use mathlib.Core.Bool.{Bool, true, false, true≢false}
use mathlib.Core.List.{List, [], ◌∷◌, ◌++◌}
use mathlib.Core.Logic.{◌⊎◌, inl, inr, ◌≢◌, by_cases, ⊎_elim}
use mathlib.Core.Path.{◌≡◌, refl, sym, ◌∙◌}
use Prim.Native.Nat.{ℕ, ◌+◌, ◌-◌}
use native.Mathlib.Omega.{arith}
use native.Mathlib.Decide.{ℕ_discrete}
use lib.ListN.{length, take}
use lib.Seq.{take-length}
use Rattle.paper.specs.Record.{byte, heading_code, names, blank}
use Rattle.paper.specs.Layout.{boxed}
use Rattle.paper.specs.Table.{rooms, rec}
use Rattle.paper.specs.Line.{Word}
use Rattle.paper.specs.Request.{Read, request, unread, asked}
use Rattle.paper.specs.Code.{no_write}
use Rattle.paper.specs.Entry.{named}
use Rattle.paper.specs.Block.{blocks_of}
use Rattle.paper.specs.Walk.{file}
use Rattle.paper.specs.Store.{Store, clear, clears, run}
use Rattle.paper.specs.Count.{recounts}
use Rattle.paper.specs.Effect.{Plan, Planned, plan, halted, freed, with_counts, lost, settled, del_plan, destroying, dst_plan}
use Rattle.paper.specs.Answer.{Outcome, ran, single, one_name, deleting, requested}
use Rattle.laws.proofs.Tests.{truth, not-both, either}
use Rattle.laws.proofs.Lists.{Every, every_append, every-each, every-imp}
use Rattle.laws.proofs.Lay.{length-blank, within}
use Rattle.laws.proofs.Runs.{Lays, length_run, rooms-run}
use Rattle.demands.proofs.Sound.Clauses.{Sound}
use Rattle.demands.proofs.Request.Several.{Several, deletion, destruction, plan_of}
use Rattle.demands.proofs.Request.Ended.{Passed, ran-by}
use Rattle.demands.proofs.Request.Steps.{last-looked, end_by}
use Rattle.demands.proofs.SoundKept.Freed.{text-found}
use Rattle.demands.proofs.SoundKept.Kept.{passed-sound, named-keeps}
use Rattle.demands.proofs.Answered.Ways.{is_dst}
use Rattle.demands.proofs.Mending.Wipe.{Blanks, every-clears}
use Rattle.demands.proofs.Mending.Part.{Less}
use Rattle.demands.proofs.Mending.Counts.{alike-kind}
use Rattle.demands.proofs.Mending.Less.{less-refl, less-trans}
use Rattle.histories.proofs.Calls.Stores.{Put, Open, less-stays, less-same, Shaped, plain, freeing, razing, unnamed-still, shaped-left}
use Rattle.histories.proofs.Calls.Falls.{Falls, falls-none, falls-less, falls-append, falls-take, clears-fall, counts-fall}
use Rattle.histories.proofs.Calls.Anywhere.{Fits, lays-fit}
use Rattle.histories.proofs.Calls.Shapes.{Shape, del-shape, dst-shape}
use Rattle.histories.proofs.Calls.Ways.{Way, lent, by-plan, by_names, ways}
use Rattle.histories.proofs.Calls.Held.{held-trans, held-code}
use Rattle.histories.proofs.Calls.Moved.{Moved, text-of, moved_none, moved-left}

pub passed-shaped : (b : Bool) (t : List ℕ) (x : Planned) (p : Plan) → Shape b t x → Passed x p → Shaped b t p.stores
passed-shaped b t x p h v = let s : Shape b t (plan p) = rw v.plan at h in s v.checks

-- the first k stores of a plan that passes
pub passed-moved : (b : Bool) (t : List ℕ) → Sound t → (x : Planned) (p : Plan) → Shape b t x → Passed x p → (k : ℕ) → Moved b t (run t (take k p.stores))
passed-moved b t c x p h v k =
    moved-left b t (run t (take k p.stores)) c (length_run t (take k p.stores)) (shaped-left b t c p.stores (passed-shaped b t x p h v) k)

-- .. and all of them
pub whole-moved : (b : Bool) (t : List ℕ) → Sound t → (x : Planned) (p : Plan) → Shape b t x → Passed x p → Moved b t (run t p.stores)
whole-moved b t c x p h v =
    let z : take (length p.stores) p.stores ≡ p.stores = take-length p.stores in
    rw z at (passed-moved b t c x p h v (length p.stores))

single-moved : (t reply : List ℕ) (k : ℕ) → Sound t → (x : Planned) → Shape false t x → Moved false t (single t reply k (ran k x)).table
single-moved t reply k c x h =
    ran-by (λ y. Moved false t (single t reply k y).table) k x
    (λ _ _. moved_none t c) (λ p v _. whole-moved false t c x p h v) (λ p v _. passed-moved false t c x p h v k)

-- ---- DEL and DST

-- a move, and then one that only clears
moved_then : (r : Bool) (t m s : List ℕ) → Sound m → Moved r t m → Moved r m s → Less m s → Moved r t s
moved_then r t m s c a b d =
    record {
      long = b.long ∙ a.long;
      held = λ h k n z.
          let x = a.held h k n (heads h z) in
          held-trans h t m s x (b.held h (heads h z) (rw (held-code h t m x) n) z);
      last = λ h k n.
          by_cases (ℕ_discrete (byte (rec m h) 0) 1)
          (λ (q : byte (rec m h) 0 ≡ 1). closed h k q (b.last h q n))
          (λ (q : byte (rec m h) 0 ≢ 1). ⊎_elim (λ x. inl (unnamed-still m s h c.whole d x)) inr (a.last h k q));
      new = λ h n k. a.new h n (heads h k);
      fresh = λ h i n x. a.fresh h i n (rw (less-same m s c.whole d i 1 (text-of h (rec s i) x).0) at x);
    }
  where
    -- what could be written between could be written before
    closed : (h : ℕ) → byte (rec t h) 0 ≡ 1 → byte (rec m h) 0 ≡ 1 → (named s h ≡ false) ⊎ Open r m h → (named s h ≡ false) ⊎ Open r t h
    closed h k q (inl x) = inl x
    closed h k q (inr (y, x)) = go (truth (no_write (heading_code (rec t h))))
      where
        go : (no_write (heading_code (rec t h)) ≡ true) ⊎ (no_write (heading_code (rec t h)) ≡ false) → (named s h ≡ false) ⊎ Open r t h
        go (inl e) = absurd (not-both (rw (held-code h t m (a.held h k e q)) e) x)
        go (inr e) = inr (y, e)

    heads : (h : ℕ) → byte (rec s h) 0 ≡ 1 → byte (rec m h) 0 ≡ 1
    heads h k = sym (alike-kind (rec m h) (rec s h) (less-stays m s c.whole d h (omega arith))) ∙ k

-- a file freed: clearings
abbrev pub Clears : List ℕ → Store → Type 0
Clears t = Lays (λ i r. r ≡ blank) (rooms t)

pub freed-clears : (t : List ℕ) → Sound t → (h : ℕ) → byte (rec t h) 0 ≡ 1 → Every (Clears t) (freed t h)
unfolding freed
freed-clears t c h k = (
  record { within = within t h c.whole (omega arith); size = length-blank; holds = refl },
  every-each _ _ (blocks_of t h) (λ p b. record { within = (text-found 65535 t h c k p b).0; size = length-blank; holds = refl }),
)

-- each store of a plan is a whole record
pub shaped-fits : (b : Bool) (t : List ℕ) → Sound t → (ss : List Store) → Shaped b t ss → Every Fits ss
shaped-fits b t c ss (plain h) = lays-fit (Put t) (rooms t) ss h
shaped-fits b t c ss (razing z r) = rw r.is (length-blank, lays-fit _ (rooms t) r.rest r.each)
shaped-fits b t c ss (freeing main g h k n e) =
    rw e (every_append Fits main (freed t g) (lays-fit (Put t) (rooms t) main h)
    (lays-fit (λ _ r. r ≡ blank) (rooms t) (freed t g) (freed-clears t c g k)))

-- a plan that only takes away
abbrev pub Falling : List ℕ → Planned → Type 0
Falling t (halted f) = Unit {0}
Falling t (plan p) = Falls t p.stores

pub del-falls : (t : List ℕ) → Sound t → (u place : ℕ) (w : Word) → Falling t (del_plan boxed t u place w)
unfolding del_plan settled
del-falls t c u place w =
    end_by (Falling t) place (λ _ _ _. tt) t u w _ (λ d f _ q.
    let g = last-looked t d _ f q in
    let e : ℕ = f.entry in
    let entry : Falls t (clear e ∷ []) = clears-fall (clear e ∷ []) t (record { within = g.within; size = length-blank; holds = refl }, tt) in
    let main = falls-append (clear e ∷ []) (recounts (run t (clear e ∷ []))) t entry (counts-fall (run t (clear e ∷ []))) in
    falls-append (with_counts t (clear e ∷ [])) _ t main
    (either (Falls (run t (with_counts t (clear e ∷ [])))) (lost t e blank) _ _
    (clears-fall _ _ (rw (rooms-run t (with_counts t (clear e ∷ []))) (freed-clears t c _ (c.targets e g.within g.stands.kind))))
    (falls-none _)))

pub dst-falls : (t : List ℕ) → Sound t → (u place : ℕ) (w : Word) → Falling t (dst_plan boxed t u place w)
unfolding dst_plan destroying
dst-falls t c u place w =
    end_by (Falling t) place (λ _ _ _. tt) t u w _ (λ d f _ q.
    let g = last-looked t d _ f q in
    let h : ℕ = file t f in
    let k = c.targets f.entry g.within g.stands.kind in
    let es : List Store = clears (λ i. names h (rec t i)) (rooms t) in
    let ss : List Store = freed t h ++ es in
    falls-append ss (recounts (run t ss)) t
    (clears-fall ss t (every_append (Clears t) (freed t h) es (freed-clears t c h k)
    (every-imp (Lays (Blanks (λ i. names h (rec t i))) (rooms t)) (Clears t) es
    (λ s l. record { within = l.within; size = l.size; holds = l.holds.0 }) (every-clears (λ i. names h (rec t i)) (rooms t)))))
    (counts-fall (run t ss)))

-- one name of either: only a DST destroys
abbrev pub razes : Several → Bool
razes deletion = false
razes destruction = true

pub named-falls : (v : Several) (t : List ℕ) → Sound t → (u place : ℕ) (w : Word) → Falling t (plan_of v t u place w)
named-falls deletion = del-falls
named-falls destruction = dst-falls

pub named-shape : (v : Several) (t : List ℕ) → Sound t → (u place : ℕ) (w : Word) → Shape (razes v) t (plan_of v t u place w)
named-shape deletion = del-shape
named-shape destruction = dst-shape

-- the table moves, and is less
pub record Deletes (b : Bool) (t s : List ℕ) : Type 0 where
  pub moved : Moved b t s
  pub less : Less t s

deletes-none : (b : Bool) (t : List ℕ) → Sound t → Deletes b t t
deletes-none b t c = record { moved = moved_none t c; less = less-refl t }

pub deleting-moved : (b : Several) (ws : List Word) (t : List ℕ) (u : ℕ) (reply : List ℕ) (k n made : ℕ) → Sound t
    → Deletes (razes b) t (deleting (plan_of b) t u reply k n made ws).table
unfolding deleting
deleting-moved b [] t u reply k n made c = deletes-none (razes b) t c
deleting-moved b (w ∷ ws) t u reply k n made c = one (λ t₁. deleting-moved b ws t₁ u reply)
  where
    x : Planned
    x = plan_of b t u (n + 1) w

    more : List ℕ → ℕ → ℕ → ℕ → Outcome
    more t₁ k₁ n₁ made₁ = deleting (plan_of b) t₁ u reply k₁ n₁ made₁ ws

    falls : (p : Plan) → Passed x p → Falls t p.stores
    falls p v = let s : Falling t (plan p) = rw v.plan at (named-falls b t c u (n + 1) w) in s

    one : ((t₁ : List ℕ) (k₁ n₁ made₁ : ℕ) → Sound t₁ → Deletes (razes b) t₁ (more t₁ k₁ n₁ made₁).table)
        → Deletes (razes b) t (one_name t reply k n made more (ran k x)).table
    one rest =
        ran-by (λ y. Deletes (razes b) t (one_name t reply k n made more y).table) k x
        (λ _ _. deletes-none (razes b) t c)
        (λ p v _.
        let c₁ = (passed-sound t x p (named-keeps b t u (n + 1) w c) v).clauses in
        let d = rest (run t p.stores) (k - length p.stores) (n + 1) (made + length p.stores) c₁ in
        record {
          moved = moved_then (razes b) t (run t p.stores) _ c₁ (whole-moved (razes b) t c x p (named-shape b t c u (n + 1) w) v) d.moved d.less;
          less = less-trans t (run t p.stores) _ (falls-less p.stores t (falls p v)) d.less;
        })
        (λ p v _. record {
          moved = passed-moved (razes b) t c x p (named-shape b t c u (n + 1) w) v k;
          less = falls-less (take k p.stores) t (falls-take k p.stores t (falls p v));
        })

-- ---- every request

-- what destroys nothing
calm : (b : Bool) (t s : List ℕ) → Moved false t s → Moved b t s
calm b t s m =
    record {
      long = m.long;
      held = m.held;
      last = λ h k n. ⊎_elim inl (λ o. absurd (true≢false (sym o.0))) (m.last h k n);
      new = m.new;
      fresh = m.fresh;
    }

-- the request is a DST
abbrev destroying_read : Read → Bool
destroying_read (request r) = is_dst r
destroying_read (unread f) = false

abbrev pub is_destroying : List ℕ → List ℕ → Bool
is_destroying line text = destroying_read (asked line text)

pub request-moved : (t line text reply : List ℕ) (u k : ℕ) → Sound t → Moved (is_destroying line text) t (requested boxed t line text reply u k).table
request-moved t line text reply u k c = go (ways t line text reply u)
  where
    b : Bool
    b = is_destroying line text

    go : Way t line text reply u → Moved b t (requested boxed t line text reply u k).table
    go (lent e) = rw (e k) (moved_none t c)
    go (by-plan _ x h e) = calm b t _ (rw (e k) (single-moved t reply k c x h))
    go (by_names _ deletion names q e) = calm b t _ (rw (e k) (deleting-moved deletion names t u reply k 0 0 c).moved)
    go (by_names _ destruction names q e) = rw (q, e k) (deleting-moved destruction names t u reply k 0 0 c).moved
