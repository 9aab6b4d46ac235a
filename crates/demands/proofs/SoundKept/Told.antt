-- DPR, CHN and `WRS*` store no count: a heading laid again keeps bytes 0-1 and 12-15, an entry its directory and its file, and text counts
-- for nothing; so counts that were true are true.
use mathlib.Core.Bool.{true}
use mathlib.Core.List.{List}
use mathlib.Core.Logic.{◌⊎◌, inl, inr, ◌≢◌}
use mathlib.Core.Path.{◌≡◌, sym, ◌∙◌}
use Prim.Native.Nat.{ℕ, ◌≤◌, ◌<◌}
use native.Mathlib.Omega.{arith}
use lib.ListN.{length}
use Rattle.paper.specs.Record.{byte, rewritten}
use Rattle.paper.specs.Layout.{boxed}
use Rattle.paper.specs.Table.{rooms, rec, lay}
use Rattle.paper.specs.Sound.{counts_true}
use Rattle.paper.specs.Store.{run}
use Rattle.paper.specs.Effect.{recoded, renamed, emptied, emptying, rewriting}
use Rattle.laws.proofs.Rewritten.{length-rewritten, rewritten-byte}
use Rattle.laws.proofs.Lay.{length-rec, kind-blank, within}
use Rattle.laws.proofs.Runs.{length_run}
use Rattle.demands.proofs.Sound.Clauses.{Sound}
use Rattle.demands.proofs.Sound.Right.{Right}
use Rattle.demands.proofs.SoundKept.Alike.{like-names, like-stands}
use Rattle.demands.proofs.SoundKept.Recoded.{byte-same, length-recoded}
use Rattle.demands.proofs.SoundKept.Renamed.{renamed-like, length-renamed}
use Rattle.demands.proofs.SoundKept.Emptied.{Medium, size-h, Emptied, heading, text, other, emptied-by, emptied-heading, emptied-sound}
use Rattle.demands.proofs.SoundKept.Refilled as filled
use Rattle.demands.proofs.SoundKept.Refilled.{Rewrite, Look, look, room-free, text_at_lem, refilled-sound}
use Rattle.demands.proofs.SoundKept.Recounted.{Tells, tells-same, tells-other, tells-gone, tells-heading, counts-kept, replaced-true}

-- a heading with its new code
pub recoded-true : (t : List ℕ) (h code : ℕ) → Sound t → byte (rec t h) 0 ≡ 1 → counts_true t ≡ true → counts_true (lay t h (recoded (rec t h) code)) ≡ true
recoded-true t h code c k =
    let l : h < rooms t = within t h c.whole (omega arith) in
    let s : length (rec t h) ≡ 32 = length-rec t h l in
    let z : length (recoded (rec t h) code) ≡ 32 = length-recoded (rec t h) code s k in
    replaced-true t h (recoded (rec t h) code) l z
    (tells-heading (rec t h) (recoded (rec t h) code) s z k
    (λ j m. byte-same (rec t h) code s k j (λ (q : j ≡ 3). omega arith)) (λ j m n. byte-same (rec t h) code s k j (λ (q : j ≡ 3). omega arith)))

-- an entry with its new name
pub renamed-true : (t : List ℕ) (e : ℕ) (name : List ℕ) → e < rooms t → byte (rec t e) 0 ≡ 2 → counts_true t ≡ true
    → counts_true (lay t e (renamed boxed (rec t e) name)) ≡ true
renamed-true t e name l k =
    let s : length (rec t e) ≡ 32 = length-rec t e l in
    let like = renamed-like (rec t e) name s k in
    replaced-true t e (renamed boxed (rec t e) name) l (length-renamed (rec t e) name s k)
    (record {
      names = λ h. like-names h (rec t e) (renamed boxed (rec t e) name) like;
      stands = λ d. like-stands d (rec t e) (renamed boxed (rec t e) name) like;
      heading = λ (q : byte (renamed boxed (rec t e) name) 0 ≡ 1). let z : ⊥ = omega (arith, like.kind) in absurd z;
    })

-- the same heading with one mark and length, and with another
again : (r : List ℕ) (m n m₁ n₁ : ℕ) → length r ≡ 32 → byte r 0 ≡ 1 → Tells (rewritten r m n) (rewritten r m₁ n₁)
again r m n m₁ n₁ s k =
    tells-heading (rewritten r m n) (rewritten r m₁ n₁) (length-rewritten r m n s) (length-rewritten r m₁ n₁ s)
    (rewritten-byte r m n 0 (omega arith, inl (omega arith)) ∙ k)
    (λ j l. same j (λ (q : j ≡ 5). omega arith) (inl (omega arith))) (λ j a l. same j (λ (q : j ≡ 5). omega arith) (inr a))
  where
    same : (j : ℕ) → j ≢ 5 → (j < 10) ⊎ (12 ≤ j) → byte (rewritten r m₁ n₁) j ≡ byte (rewritten r m n) j
    same j d x = rewritten-byte r m₁ n₁ j (d, x) ∙ sym (rewritten-byte r m n j (d, x))

marked : (r : List ℕ) (m n : ℕ) → length r ≡ 32 → byte r 0 ≡ 1 → Tells r (rewritten r m n)
marked r m n s k =
    tells-heading r (rewritten r m n) s (length-rewritten r m n s) k
    (λ j l. rewritten-byte r m n j (λ (q : j ≡ 5). omega arith, inl (omega arith)))
    (λ j a l. rewritten-byte r m n j (λ (q : j ≡ 5). omega arith, inr a))

-- a file emptied
module _ (t : List ℕ) (h : ℕ) (c : Sound t) (f : Medium t h) where
  emptied-tells : (i : ℕ) → Emptied t h c f i → Tells (rec t i) (rec (emptied t h) i)
  emptied-tells i (heading e z) = rw (z, e) (marked (rec t h) 1 0 (size-h t h c f) f.kind)
  emptied-tells i (text k e z) = tells-gone (rec t i) (rec (emptied t h) i) (λ (q : byte (rec t i) 0 ≡ 2). omega arith) z
  emptied-tells i (other o e z) = tells-same (rec t i) (rec (emptied t h) i) z

  pub emptied-true : counts_true t ≡ true → counts_true (emptied t h) ≡ true
  emptied-true = counts-kept t (emptied t h) (length_run t (emptying t h)) (λ i l. emptied-tells i (emptied-by t h c f i l))

pub emptied-right : (t : List ℕ) (h : ℕ) → Right t → Medium t h → Right (emptied t h)
emptied-right t h c f = record { clauses = emptied-sound t h c.clauses f; counts = emptied-true t h c.clauses f c.counts }

-- and rewritten
module _ (t : List ℕ) (h : ℕ) (new : List ℕ) (c : Sound t) (w : Rewrite t h new) where
  abbrev g : List ℕ
  g = run t (rewriting t h new)

  refilled-tells : (i : ℕ) → Look t h new c w i → Tells (rec (emptied t h) i) (rec g i)
  refilled-tells i (filled.heading e z) =
      rw (z, e, emptied-heading t h c w.file) (again (rec t h) 1 0 0 (length new) (size-h t h c w.file) w.file.kind)
  refilled-tells i (filled.body p l e z) =
      let k : byte (rec g i) 0 ≡ 3 = rw z (text_at_lem t h new c w p l).kind in
      let b : byte (rec (emptied t h) i) 0 ≡ 0 = kind-blank (rec (emptied t h) i) (rw e (room-free t h new c w p l)) in
      tells-other (rec (emptied t h) i) (rec g i) (λ (q : byte (rec (emptied t h) i) 0 ≡ 2). omega arith) (λ (q : byte (rec g i) 0 ≡ 2). omega arith)
      (λ (q : byte (rec g i) 0 ≡ 1). let y : ⊥ = omega arith in absurd y)
  refilled-tells i (filled.old o z) = tells-same (rec (emptied t h) i) (rec g i) z

  pub refilled-true : counts_true t ≡ true → counts_true g ≡ true
  refilled-true q =
      counts-kept (emptied t h) g (length_run t (rewriting t h new) ∙ sym (length_run t (emptying t h)))
      (λ i l. refilled-tells i (look t h new c w i (rw (length_run t (emptying t h)) at l))) (emptied-true t h c w.file q)

pub refilled-right : (t : List ℕ) (h : ℕ) (new : List ℕ) → Right t → Rewrite t h new → Right (run t (rewriting t h new))
refilled-right t h new c w =
    record { clauses = refilled-sound t h new c.clauses w; counts = refilled-true t h new c.clauses w c.counts }
