-- Paths over a file whose text is exchanged: entries stay, and headings keep their type and code, so each name is found where it was,
-- with the code that it had, and every walk ends as before.
use mathlib.Core.List.{List}
use mathlib.Core.Path.{◌≡◌, refl, ap, ◌∙◌}
use Prim.Native.Nat.{ℕ}
use native.Mathlib.Omega.{arith}
use Rattle.paper.specs.Scan.{Found, at, nowhere}
use Rattle.paper.specs.Record.{byte, heading_code, heading_named}
use Rattle.paper.specs.Layout.{boxed}
use Rattle.paper.specs.Table.{rooms, rec}
use Rattle.paper.specs.Entry.{Holder, bears, find}
use Rattle.paper.specs.Walk.{State, applies, looked, look, enter, then, follow, Walked, reached, stopped, to_directory, to_last, arrived, last_from, end_from, ended}
use Rattle.laws.proofs.Tests.{clash}
use Rattle.laws.proofs.Scans.{first_cong}
use Rattle.laws.proofs.Entries.{bears-stands, found-stands}
use Rattle.demands.proofs.Sound.Clauses.{Sound}
use Rattle.demands.proofs.Request.Steps.{last-looked, end_same}
use Rattle.demands.proofs.SoundKept.Retexted.{mine-not, Retexted, Seen, same, head, mine, seen, of-entries, of-type}

-- a walk that arrives has found its last entry
pub arrived-entry : (t : List ℕ) (s : State) (ns : List (List ℕ)) (d e : State) → ended boxed t s ns ≡ arrived d e → byte (rec t e.entry) 0 ≡ 2
unfolding ended
arrived-entry t s ns d e q = go (to_directory boxed t 1 s ns) q
  where
    last : (y : State) (x : Walked) → to_last boxed t y ns ≡ x → last_from y x ≡ arrived d e → byte (rec t e.entry) 0 ≡ 2
    last y (stopped number link) p r = clash (cc)
    last y (reached z) p r = let b : z ≡ e = cc in (last-looked t y ns e (p ∙ ap reached b)).stands.kind

    go : (x : Walked) → end_from boxed t ns x ≡ arrived d e → byte (rec t e.entry) 0 ≡ 2
    go (stopped number link) r = clash (cc)
    go (reached y) r = last y (to_last boxed t y ns) refl r

module _ (t f : List ℕ) (h : ℕ) (c : Sound t) (d : Retexted t f h) (k : heading_code (rec f h) ≡ heading_code (rec t h)) where
  pub entry-stays : (i : ℕ) → byte (rec t i) 0 ≡ 2 → rec f i ≡ rec t i
  entry-stays i q = go (seen t f h c d i)
    where
      go : Seen t f h c d i → rec f i ≡ rec t i
      go (same e) = e
      go (head e) = let z : byte (rec t h) 0 ≡ 2 = rw e at q in let y : ⊥ = omega (arith, d.heading) in absurd y
      go (mine a b) = absurd (mine-not h (rec t i) 2 a (omega arith) (omega arith) q)

  code_stays : (g : ℕ) → byte (rec t g) 0 ≡ 1 → heading_code (rec f g) ≡ heading_code (rec t g)
  code_stays g q = go (seen t f h c d g)
    where
      go : Seen t f h c d g → heading_code (rec f g) ≡ heading_code (rec t g)
      go (same e) = rw e
      go (head e) = rw e k
      go (mine a b) = absurd (mine-not h (rec t g) 1 a (omega arith) (omega arith) q)

  find-stays : (x : Holder) (n : List ℕ) → find boxed f x n ≡ find boxed t x n
  unfolding find
  find-stays x n =
      rw d.long (first_cong (λ i. bears boxed x n (rec f i)) (λ i. bears boxed x n (rec t i)) (rooms t)
      (λ i _. of-entries t f h c d (bears boxed x n) (λ r e. (bears-stands x n r e).kind) i))

  -- an entry that is found
  module _ (s : State) (n : List ℕ) (e : ℕ) (q : find boxed t s.holder n ≡ at e) where
    entry-same : rec f e ≡ rec t e
    entry-same = entry-stays e (found-stands t s.holder n e q).1.kind

    applies-same : applies f e ≡ applies t e
    unfolding applies
    applies-same =
        let g = found-stands t s.holder n e q in
        rw (entry-same, code_stays (heading_named (rec t e)) (c.targets e g.0 g.1.kind))

    enter-same : (code : ℕ) → enter f (record { holder = s.holder; entry = e; code = code }) ≡ enter t (record { holder = s.holder; entry = e; code = code })
    unfolding enter
    enter-same code = rw (entry-same, of-type t f h c d 0 (heading_named (rec t e)))

  look-same : (s : State) (n : List ℕ) → look boxed f s n ≡ look boxed t s n
  unfolding look
  look-same s n = rw (find-stays s.holder n) (go (find boxed t s.holder n) refl)
    where
      go : (x : Found) → find boxed t s.holder n ≡ x → looked f s x ≡ looked t s x
      go (at e) q = rw (applies-same s n e q)
      go nowhere q = refl

  follow-same : (s : State) (n : List ℕ) → follow boxed f s n ≡ follow boxed t s n
  unfolding follow look
  follow-same s n = rw (find-stays s.holder n) (go (find boxed t s.holder n) refl)
    where
      go : (x : Found) → find boxed t s.holder n ≡ x → then (looked f s x) (enter f) ≡ then (looked t s x) (enter t)
      go (at e) q = rw (applies-same s n e q) (enter-same s n e q (applies t e))
      go nowhere q = refl

  pub ended_same : (s : State) (ns : List (List ℕ)) → ended boxed f s ns ≡ ended boxed t s ns
  ended_same = end_same t f look-same follow-same
