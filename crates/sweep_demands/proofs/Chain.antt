-- "No chain of entries from any user's base files reaches" it, of whatever length: a chain is a base file's entry and then entries, each of the
-- directory that the one before names. What is reached has one, by going back step by step; and each step of one is a step of reach.
use mathlib.Core.Bool.{true}
use mathlib.Core.List.{List}
use mathlib.Core.Logic.{◌⊎◌, inl, inr}
use mathlib.Core.Path.{◌≡◌, refl}
use Prim.Native.Nat.{ℕ, zero, suc, ◌<◌}
use borrow.Author.Tests.{eqb-true}
use Rattle.paper.specs.Record.{byte, is_kind, holder_of, names}
use Rattle.paper.specs.Table.{rooms, rec}
use Rattle.paper.specs.Sound.{is_base}
use Rattle.paper.specs.Sweep.{reached_in, reached}
use Rattle.laws.proofs.Tests.{not-both, and_left, and_right, or_cases, or_left, or_right}
use Rattle.laws.proofs.Scans.{any-true}
use Rattle.laws.proofs.Lay.{Whole}
use Rattle.sweep_demands.proofs.Reach.{Leads, reached-by}

-- a chain of entries of t to heading h, its last entry in record i
pub data Chain (t : List ℕ) : ℕ → Type 0 where
  base : {h : ℕ} (i : ℕ) → i < rooms t → byte (rec t h) 0 ≡ 1 → names h (rec t i) ≡ true → is_base (rec t i) ≡ true → Chain t h
  link : {h : ℕ} (i : ℕ) → i < rooms t → byte (rec t h) 0 ≡ 1 → names h (rec t i) ≡ true → Chain t (holder_of (rec t i)) → Chain t h

pub chain-reached : (t : List ℕ) → Whole t → (h : ℕ) → Chain t h → reached t h ≡ true
chain-reached t w h (base i l k n b) = reached-by t w h i k l n (or_left (is_base (rec t i)) _ b)
chain-reached t w h (link i l k n c) = reached-by t w h i k l n (or_right (is_base (rec t i)) _ (chain-reached t w (holder_of (rec t i)) c))

in-chain : (t : List ℕ) (n h : ℕ) → reached_in n t h ≡ true → Chain t h
unfolding reached_in
in-chain t zero h e = absurd (not-both e refl)
in-chain t (suc n) h e =
    let x = any-true (Leads t (reached_in n t) h) (rooms t) (and_right (is_kind 1 (rec t h)) _ e) in
    at (in-chain t n) (eqb-true _ _ (and_left (is_kind 1 (rec t h)) _ e)) x.0 x.1 x.2
  where
    at : ((d : ℕ) → reached_in n t d ≡ true → Chain t d) → byte (rec t h) 0 ≡ 1 → (i : ℕ) → i < rooms t → Leads t (reached_in n t) h i ≡ true → Chain t h
    at more k i l y = go (or_cases (is_base (rec t i)) _ (and_right (names h (rec t i)) _ y))
      where
        go : (is_base (rec t i) ≡ true) ⊎ (reached_in n t (holder_of (rec t i)) ≡ true) → Chain t h
        go (inl b) = base i l k (and_left (names h (rec t i)) _ y) b
        go (inr c) = link i l k (and_left (names h (rec t i)) _ y) (more (holder_of (rec t i)) c)

pub reached-chain : (t : List ℕ) (h : ℕ) → reached t h ≡ true → Chain t h
unfolding reached
reached-chain t h e = in-chain t (rooms t) h e
