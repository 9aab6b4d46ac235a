-- A table grown by a file: what was not free stays, and free records have become a heading or text of a heading that was free.
-- A scan for entries, or for the text of a heading that was there, passes over both; so it finds and counts what it did.
use mathlib.Core.Bool.{Bool, true}
use mathlib.Core.List.{List}
use mathlib.Core.Logic.{◌⊎◌, inl, inr, ◌≢◌}
use mathlib.Core.Path.{◌≡◌, refl, sym, ap, ◌∙◌}
use Prim.Native.Nat.{ℕ, ◌<◌}
use native.Mathlib.Omega.{arith}
use lib.ListN.{length}
use Rattle.paper.specs.Record.{byte, names, heading_of, text_at}
use Rattle.paper.specs.Layout.{boxed}
use Rattle.paper.specs.Table.{rooms, rec}
use Rattle.paper.specs.Entry.{Holder, stands, bears, find, crowd, named}
use Rattle.paper.specs.Count.{namings}
use Rattle.laws.proofs.Tests.{false-by}
use Rattle.laws.proofs.Scans.{any-cong, first_cong}
use Rattle.laws.proofs.Counts.{count-cong}
use Rattle.laws.proofs.Entries.{stands-true, bears-stands, names-kind, TextAt, text-true}
use Rattle.laws.proofs.Lay.{Whole, within}

-- record b in place of a free record a: a heading, or text of a heading that was free
pub record New (t a b : List ℕ) : Type 0 where
  pub free : byte a 0 ≡ 0
  pub kind : (byte b 0 ≡ 1) ⊎ ((byte b 0 ≡ 3) × (byte (rec t (heading_of b)) 0 ≡ 0))

-- f is t with such records
pub record Grown (t f : List ℕ) : Type 0 where
  pub long : length f ≡ length t
  pub each : (i : ℕ) → i < rooms t → (rec f i ≡ rec t i) ⊎ New t (rec t i) (rec f i)

pub grown-none : (t : List ℕ) → Grown t t
grown-none t = record { long = refl; each = λ i l. inl refl }

new-no-entry : (t a b : List ℕ) → New t a b → byte b 0 ≢ 2
new-no-entry t a b n = go n.kind
  where
    go : (byte b 0 ≡ 1) ⊎ ((byte b 0 ≡ 3) × (byte (rec t (heading_of b)) 0 ≡ 0)) → byte b 0 ≢ 2
    go (inl k) = omega arith
    go (inr k) = omega (arith, k.0)

-- a test that only entries pass, or that only the text of a heading of t passes, goes by neither
pub new-entry : (t a b : List ℕ) → New t a b → (test : List ℕ → Bool) → ((r : List ℕ) → test r ≡ true → byte r 0 ≡ 2) → test b ≡ test a
new-entry t a b n test k = false-by (test b) (λ e. new-no-entry t a b n (k b e)) ∙ sym (false-by (test a) (λ e. omega (arith, k a e, n.free)))

pub new-text : (t a b : List ℕ) (h p : ℕ) → New t a b → byte (rec t h) 0 ≡ 1 → text_at h p b ≡ text_at h p a
new-text t a b h p n k =
    false-by (text_at h p b) (λ e. no n.kind (text-true h p b e))
    ∙ sym (false-by (text_at h p a) (λ e. omega (arith, (text-true h p a e).kind, n.free)))
  where
    no : (byte b 0 ≡ 1) ⊎ ((byte b 0 ≡ 3) × (byte (rec t (heading_of b)) 0 ≡ 0)) → TextAt h p b → ⊥
    no (inl x) y = omega (arith, y.kind)
    no (inr (x, z)) y = omega (arith, rw y.heading at z, k)

module _ (t f : List ℕ) (g : Grown t f) where
  pub grown-rooms : rooms f ≡ rooms t
  grown-rooms = rw g.long

  -- what is not free stays
  pub grown-stays : (i : ℕ) → Whole t → byte (rec t i) 0 ≢ 0 → rec f i ≡ rec t i
  grown-stays i w n = go (g.each i (within t i w n))
    where
      go : (rec f i ≡ rec t i) ⊎ New t (rec t i) (rec f i) → rec f i ≡ rec t i
      go (inl e) = e
      go (inr e) = absurd (n e.free)

  -- an entry of f is one of t
  pub grown-entry : (i : ℕ) → i < rooms t → byte (rec f i) 0 ≡ 2 → rec f i ≡ rec t i
  grown-entry i l k = go (g.each i l)
    where
      go : (rec f i ≡ rec t i) ⊎ New t (rec t i) (rec f i) → rec f i ≡ rec t i
      go (inl e) = e
      go (inr e) = absurd (new-no-entry t (rec t i) (rec f i) e k)

  -- a test that only entries pass says what it did
  same-entry : (test : List ℕ → Bool) → ((r : List ℕ) → test r ≡ true → byte r 0 ≡ 2) → (i : ℕ) → i < rooms t → test (rec f i) ≡ test (rec t i)
  same-entry test k i l = go (g.each i l)
    where
      go : (rec f i ≡ rec t i) ⊎ New t (rec t i) (rec f i) → test (rec f i) ≡ test (rec t i)
      go (inl e) = ap test e
      go (inr e) = new-entry t (rec t i) (rec f i) e test k

  pub grown-named : (h : ℕ) → named f h ≡ named t h
  unfolding named
  grown-named h = rw grown-rooms (any-cong _ _ (rooms t) (same-entry (names h) (names-kind h)))

  pub grown-namings : (h : ℕ) → namings f h ≡ namings t h
  unfolding namings
  grown-namings h = rw grown-rooms (count-cong _ _ (rooms t) (same-entry (names h) (names-kind h)))

  pub grown-crowd : (d : Holder) → crowd f d ≡ crowd t d
  unfolding crowd
  grown-crowd d = rw grown-rooms (count-cong _ _ (rooms t) (same-entry (stands d) (λ r e. (stands-true d r e).kind)))

  pub grown-find : (d : Holder) (n : List ℕ) → find boxed f d n ≡ find boxed t d n
  unfolding find
  grown-find d n = rw grown-rooms (first_cong _ _ (rooms t) (same-entry (bears boxed d n) (λ r e. (bears-stands d n r e).kind)))

  -- the text of a heading of t is where it was
  pub grown-text : (h p : ℕ) → byte (rec t h) 0 ≡ 1 → (i : ℕ) → i < rooms t → text_at h p (rec f i) ≡ text_at h p (rec t i)
  grown-text h p k i l = go (g.each i l)
    where
      go : (rec f i ≡ rec t i) ⊎ New t (rec t i) (rec f i) → text_at h p (rec f i) ≡ text_at h p (rec t i)
      go (inl e) = ap (text_at h p) e
      go (inr e) = new-text t (rec t i) (rec f i) h p e k
