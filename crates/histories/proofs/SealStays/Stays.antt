-- The same stores on two such tables keep them such: each lays one record in one place of both. And the seal stays while the heading is
-- one: only DPR lays it again with another code, with every bit that it had, and `WRS*` and counts keep its code.
use mathlib.Core.Bool.{Bool, true, false}
use mathlib.Core.List.{List}
use mathlib.Core.Logic.{◌⊎◌, inl, inr}
use mathlib.Core.Path.{◌≡◌, refl, sym}
use Prim.Native.Nat.{ℕ, ◌≤◌, ◌<◌}
use native.Mathlib.Omega.{arith}
use lib.ListN.{length, take}
use lib.Seq.{take-length, get_or-set_same}
use borrow.Author.Tests.{eqb-true, eqb-false, not-false}
use Rattle.paper.specs.Record.{byte, heading_code, blank}
use Rattle.paper.specs.Table.{rooms, rec}
use Rattle.paper.specs.Code.{joined, no_read}
use Rattle.paper.specs.Store.{Store, run}
use Rattle.paper.specs.Effect.{recoded}
use Rattle.laws.proofs.Lists.{every_take}
use Rattle.laws.proofs.Rewritten.{rewritten-byte}
use Rattle.laws.proofs.Lay.{ext-table, length-rec, within, kind-blank}
use Rattle.demands.proofs.Sound.Clauses.{Sound, heading-fields}
use Rattle.demands.proofs.Sound.Points.{text-points}
use Rattle.demands.proofs.SoundKept.Retexted.{mine-not}
use Rattle.demands.proofs.Mending.Counts.{but-byte}
use Rattle.histories.specs.History.{heads}
use Rattle.histories.proofs.Calls.Stores.{Put, heading, text, entry, cleared, recodes, rewrites, retexts, again, Kept, Of, Left, stored, rid, Shaped, shaped-left}
use Rattle.histories.proofs.Calls.Requests.{shaped-fits}
use Rattle.histories.proofs.SealStays.Veils as Veils
use Rattle.histories.proofs.SealStays.Veils.{Veiled, Veil, run-veil}
use Rattle.histories.proofs.SealStays.Plans.{joined-read}

-- the heading h, where it is one, inhibits reading
abbrev pub Sealed : ℕ → List ℕ → Type 0
Sealed h t = heads h t ≡ true → no_read (heading_code (rec t h)) ≡ true

-- the same table, or one that differs in a sealed text alone
pub data Hidden (h : ℕ) (t s : List ℕ) : Type 0 where
  equal : s ≡ t → Hidden h t s
  veiled : Veil h t s → Sealed h t → Hidden h t s

pub hidden-veil : (h : ℕ) (t s : List ℕ) → Hidden h t s → Veil h t s
hidden-veil h t s (equal e) = rw e (record { long = refl; each = λ i. Veils.same refl })
hidden-veil h t s (veiled v q) = v

-- in a sound table text has its heading: where h is none, nothing differs
pub gone-equal : (h : ℕ) (t s : List ℕ) → Veil h t s → Sound t → heads h t ≡ false → s ≡ t
gone-equal h t s v c n = sym (ext-table t s (sym v.long) c.whole (λ i l. go i l (v.each i)))
  where
    go : (i : ℕ) → i < rooms t → Veiled h (rec t i) (rec s i) → rec t i ≡ rec s i
    go i l (Veils.same e) = sym e
    go i l (Veils.text k q e) = absurd (eqb-false _ _ n (rw q at (text-points 65535 t c i l k)))

-- ---- stores

code-recoded : (r : List ℕ) (code : ℕ) → length r ≡ 32 → heading_code (recoded r code) ≡ code
unfolding recoded
code-recoded r code e = get_or-set_same r 3 code 0 (omega arith)

module _ (h : ℕ) (t : List ℕ) (c : Sound t) (k : byte (rec t h) 0 ≡ 1) (n : no_read (heading_code (rec t h)) ≡ true) where
  in-h : h < rooms t
  in-h = within t h c.whole (omega arith)

  -- what is laid over a sealed heading is sealed
  put-sealed : (r : List ℕ) → Put t h r → no_read (heading_code r) ≡ true
  put-sealed r (heading a b) = let z : ⊥ = omega arith in absurd z
  put-sealed r (text a b d) = let z : ⊥ = omega arith in absurd z
  put-sealed r (entry (inl a) b) = let z : ⊥ = omega arith in absurd z
  put-sealed r (entry (inr a) b) = let z : ⊥ = omega arith in absurd z
  put-sealed r (cleared a b) = let z : ⊥ = omega arith in absurd z
  put-sealed r (recodes code b a w x q) =
      let j : joined (heading_code (rec t h)) code ≡ code = eqb-true _ _ (not-false _ x) in
      let m : heading_code (rec t h) ≤ 7 = (heading-fields (rec t h) ((c.own h in-h).heading k)).code in
      let z : no_read (joined (heading_code (rec t h)) code) ≡ true = joined-read (heading_code (rec t h)) code m b n in
      rw (q, code-recoded (rec t h) code (length-rec t h in-h)) (rw j at z)
  put-sealed r (rewrites mark m b a w q) = rw (q, rewritten-byte (rec t h) mark m 3 (omega arith, inl (omega arith))) n
  put-sealed r (retexts g a w x y) = absurd (mine-not g (rec t h) 1 x (omega arith) (omega arith) k)
  put-sealed r (again b) = rw (but-byte (rec t h) r b 3 (omega arith)) n

  kept-sealed : (s : List ℕ) → Kept t s h → no_read (heading_code (rec s h)) ≡ true
  kept-sealed s (inl e) = rw e n
  kept-sealed s (inr p) = put-sealed (rec s h) p

  left-sealed : (b : Bool) (s : List ℕ) → Left b t s → Sealed h s
  left-sealed b s (stored each) z = kept-sealed s (each h in-h)
  left-sealed b s (rid g q y m each) z = go (each h in-h)
    where
      go : Kept t s h ⊎ ((rec s h ≡ blank) × Of t g h) → no_read (heading_code (rec s h)) ≡ true
      go (inl e) = kept-sealed s e
      go (inr e) =
          let a : byte (rec s h) 0 ≡ 1 = eqb-true _ _ z in
          let b = kind-blank (rec s h) e.0 in
          let x : ⊥ = omega arith in absurd x

  -- the first k stores of one list
  pub stores-hidden : (b : Bool) (s : List ℕ) → Veil h t s → (ss : List Store) → Shaped b t ss → (j : ℕ) → Hidden h (run t (take j ss)) (run s (take j ss))
  stores-hidden b s v ss d j =
      veiled (run-veil h (take j ss) t s c.whole (every_take _ j ss (shaped-fits b t c ss d)) v)
      (left-sealed b (run t (take j ss)) (shaped-left b t c ss d j))

  pub all-hidden : (b : Bool) (s : List ℕ) → Veil h t s → (ss : List Store) → Shaped b t ss → Hidden h (run t ss) (run s ss)
  all-hidden b s v ss d = rw (take-length ss) at (stores-hidden b s v ss d (length ss))
