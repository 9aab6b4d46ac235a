-- A walk after a filing: where it does not meet the entry filed, each entry and heading on it is as it was, and so is each step.
-- Where it meets it, the file is now a simple one and the name a link before the last: 12.
use mathlib.Core.Bool.{true, false}
use mathlib.Core.List.{List, [], ◌∷◌, ◌++◌}
use mathlib.Core.Logic.{◌⊎◌, inl, inr, ◌≢◌, by_cases}
use mathlib.Core.Path.{◌≡◌, refl, sym, ap, ◌∙◌}
use Prim.Native.Nat.{ℕ, suc, ◌-◌}
use native.Mathlib.Omega.{arith}
use native.Mathlib.Decide.{ℕ_discrete}
use lib.ListN.{length, length-append}
use lib.Seq.{get_or-append_seam}
use Rattle.paper.specs.Scan.{at}
use Rattle.paper.specs.Record.{byte, directory, simple}
use Rattle.paper.specs.Layout.{name_of, boxed}
use Rattle.paper.specs.Table.{rec}
use Rattle.paper.specs.Entry.{Holder, holder, bears, find}
use Rattle.paper.specs.Walk.{State, applies, file, Step, on, off, look, enter, then, follow, Walked, reached, stopped, linked, to_directory, last_name}
use Rattle.laws.proofs.Tests.{clash, false-by}
use Rattle.laws.proofs.Entries.{bears-stands, bears-name, stands-holder, typed-type}
use Rattle.demands.proofs.Sound.Clauses.{Sound}
use Rattle.demands.proofs.Request.Steps.{Looked, look-on}
use Rattle.demands.proofs.Mending.Part.{Alike}
use Rattle.demands.proofs.Mending.Counts.{alike-kind, alike-byte}
use Rattle.job_demands.proofs.Kept.{Filed, found-new, other-entry, same-heading, same_code}

-- ---- the last name is not looked at

pub walk-last : (t : List ℕ) (k : ℕ) (s : State) (pre : List (List ℕ)) (m n : List ℕ)
    → to_directory boxed t k s (pre ++ m ∷ []) ≡ to_directory boxed t k s (pre ++ n ∷ [])
unfolding to_directory
walk-last t k s [] m n = refl
walk-last t k s (a ∷ []) m n = refl
walk-last t k s (a ∷ b ∷ pre) m n = go (follow boxed t s a) (λ x. walk-last t (suc k) x (b ∷ pre) m n)
  where
    go : (x : Step) → ((d : State) → to_directory boxed t (suc k) d (b ∷ pre ++ m ∷ []) ≡ to_directory boxed t (suc k) d (b ∷ pre ++ n ∷ []))
        → linked k x (λ d. to_directory boxed t (suc k) d (b ∷ pre ++ m ∷ [])) ≡ linked k x (λ d. to_directory boxed t (suc k) d (b ∷ pre ++ n ∷ []))
    go (on d) h = h d
    go (off number) h = refl

pub last_of : (pre : List (List ℕ)) (n : List ℕ) → last_name (pre ++ n ∷ []) ≡ n
unfolding last_name
last_of pre n =
    let e : length (pre ++ n ∷ []) - 1 ≡ length pre = rw (length-append pre (n ∷ [])) (omega arith) in
    rw e (get_or-append_seam pre n [] [])

-- ---- one link

-- a file that is no directory stops the walk with 12
pub simple-stops : (t : List ℕ) (s : State) → simple (rec t (file t s)) ≡ true → enter t s ≡ off 12
unfolding enter
simple-stops t s e =
    let d : directory (rec t (file t s)) ≡ false =
    false-by (directory (rec t (file t s))) (λ x. omega (arith, typed-type 0 (rec t (file t s)) x, typed-type 1 (rec t (file t s)) e)) in
    rw d

-- what a walk comes to after a filing: what it came to before, or 12
abbrev pub Meets : Walked → Walked → Type 0
Meets a b = (b ≡ a) ⊎ ((link : ℕ) × (b ≡ stopped 12 link))

module _ (t f : List ℕ) (d : Holder) (n text : List ℕ) (c : Sound t) (s : Sound f) (x : Filed t f d n text) where
  look-same : (a : State) (m : List ℕ) (e : ℕ) → find boxed t a.holder m ≡ at e → e ≢ x.entry → applies f e ≡ applies t e
      → look boxed f a m ≡ look boxed t a m
  unfolding look
  look-same a m e q z r = rw (other-entry t f d n text c s x a.holder m e q z, q, r)

  enter-same : (y : State) → rec f y.entry ≡ rec t y.entry → Alike (rec t (file t y)) (rec f (file t y)) → enter f y ≡ enter t y
  unfolding enter
  enter-same y r z = rw (r, alike-kind _ _ z, alike-byte _ _ z 1 (omega arith))

  -- the entry filed is met under its own name alone
  met : (a : State) (m : List ℕ) (y : State) → Looked t a m y → y.entry ≡ x.entry
      → (byte (rec t x.entry) 0 ≡ 0) ⊎ (bears boxed d n (rec t x.entry) ≡ true) → then (look boxed f a m) (enter f) ≡ off 12
  unfolding look
  met a m y l z (inl o) = let w : byte (rec t y.entry) 0 ≡ 0 = rw z o in let v : ⊥ = omega (arith, l.stands.kind) in absurd v
  met a m y l z (inr o) =
      let h : a.holder ≡ d =
      sym (stands-holder a.holder (rec t y.entry) l.stands) ∙ ap (λ (i : ℕ). holder (rec t i)) z
      ∙ stands-holder d (rec t x.entry) (bears-stands d n (rec t x.entry) o) in
      let e : m ≡ n = l.name ∙ ap (λ (i : ℕ). name_of boxed (rec t i)) z ∙ sym (bears-name d n (rec t x.entry) o) in
      let g : find boxed f a.holder m ≡ at x.entry =
      ap (λ (i : Holder). find boxed f i m) h ∙ ap (find boxed f d) e ∙ found-new t f d n text c s x in
      rw g (simple-stops f (record { holder = a.holder; entry = x.entry; code = applies f x.entry }) x.simple)

  follow-kept : (a : State) (m : List ℕ) (b : State) → follow boxed t a m ≡ on b → (follow boxed f a m ≡ on b) ⊎ (follow boxed f a m ≡ off 12)
  unfolding follow
  follow-kept a m b q = go (look boxed t a m) refl q
    where
      other : (y : State) → look boxed t a m ≡ on y → Looked t a m y → y.entry ≢ x.entry → then (look boxed f a m) (enter f) ≡ enter t y
      other y p l z =
          let k = l.stands.kind in
          let lf : look boxed f a m ≡ on y =
          look-same a m y.entry l.first z (same_code t f d n text c s x y.entry l.within k z) ∙ p in
          rw lf (enter-same y (x.entries y.entry k z) (same-heading t f d n text c s x y.entry l.within k z))

      go : (y : Step) → look boxed t a m ≡ y → then y (enter t) ≡ on b
          → (then (look boxed f a m) (enter f) ≡ on b) ⊎ (then (look boxed f a m) (enter f) ≡ off 12)
      go (off number) p r = clash (cc)
      go (on y) p r =
          let l = look-on t a m y p in
          by_cases (ℕ_discrete y.entry x.entry)
          (λ (z : y.entry ≡ x.entry). inr (met a m y l z x.was))
          (λ (z : y.entry ≢ x.entry). inl (other y p l z ∙ r))

  -- ---- the walk

  pub walk_kept : (k : ℕ) (a : State) (ns : List (List ℕ)) (b : State) → to_directory boxed t k a ns ≡ reached b
      → Meets (reached b) (to_directory boxed f k a ns)
  unfolding to_directory
  walk_kept k a [] b q = inl q
  walk_kept k a (m ∷ []) b q = inl q
  walk_kept k a (m ∷ o ∷ ns) b q = go (follow boxed t a m) refl q (λ y. walk_kept (suc k) y (o ∷ ns) b)
    where
      again : (y : State) → (follow boxed f a m ≡ on y) ⊎ (follow boxed f a m ≡ off 12) → Meets (reached b) (to_directory boxed f (suc k) y (o ∷ ns))
          → Meets (reached b) (linked k (follow boxed f a m) (λ z. to_directory boxed f (suc k) z (o ∷ ns)))
      again y (inl p) h = rw p h
      again y (inr p) h = inr (k, rw p)

      go : (y : Step) → follow boxed t a m ≡ y → linked k y (λ z. to_directory boxed t (suc k) z (o ∷ ns)) ≡ reached b
          → ((z : State) → to_directory boxed t (suc k) z (o ∷ ns) ≡ reached b → Meets (reached b) (to_directory boxed f (suc k) z (o ∷ ns)))
          → Meets (reached b) (linked k (follow boxed f a m) (λ z. to_directory boxed f (suc k) z (o ∷ ns)))
      go (off number) p r h = clash (cc)
      go (on y) p r h = again y (follow-kept a m y p) (h y r)
