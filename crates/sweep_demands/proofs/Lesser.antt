-- A table below a sound one, in which no round clears anything and the text of each heading left is left, has all the clauses of soundness but
-- counts: it is the sound one with some records cleared, and nothing left needs them, but for counts.
use mathlib.Core.Bool.{Bool, true, false, cond}
use mathlib.Core.List.{List, []}
use mathlib.Core.Logic.{◌⊎◌, inl, inr, ◌≢◌}
use mathlib.Core.Path.{◌≡◌, refl, sym, ◌∙◌}
use Prim.Native.Nat.{ℕ, ◌<◌}
use native.Mathlib.Omega.{arith}
use borrow.Author.Tests.{eqb-true, eq-eqb, ne_eqb}
use Rattle.paper.specs.Record.{byte, is_kind, directory, simple, holder_of, names, heading_named, heading_of, blank}
use Rattle.paper.specs.Table.{rooms, rec}
use Rattle.paper.specs.Entry.{named}
use Rattle.paper.specs.Sound.{is_base}
use Rattle.paper.specs.Mend.{anchored, keeps_text, wiped, round_stores}
use Rattle.laws.proofs.Tests.{not-both, and_left, and_right, or_cases, true-by, same_truth}
use Rattle.laws.proofs.Scans.{any-true}
use Rattle.laws.proofs.Entries.{names-kind, typed-kind}
use Rattle.laws.proofs.Lay.{within, kind-blank, length-rec}
use Rattle.laws.proofs.Runs.{length_run}
use Rattle.laws.proofs.Rooms.{free-blank}
use Rattle.demands.proofs.Sound.Clauses.{Sound}
use Rattle.demands.proofs.Sound.Points.{text-points}
use Rattle.demands.proofs.SoundKept.Cleared.{Cleared, Spared, cleared-sound}
use Rattle.demands.proofs.SoundKept.Counted.{EachAlike, alike-clauses}
use Rattle.demands.proofs.Mending.Wipe.{rec-wiped}
use Rattle.demands.proofs.Mending.Part.{Alike, equal, Below, free, stays, Less}
use Rattle.demands.proofs.Mending.Counts.{alike-kind, alike_same}
use Rattle.demands.proofs.Mending.Less.{below}
use Rattle.sweep_demands.proofs.Reach.{entry-same}
use Rattle.sweep_demands.proofs.Quiet.{no-adrift, no-orphan, no_stray}

-- the text of each heading that is left is left
abbrev pub TextsStay : (s a : List ℕ) → Type 0
TextsStay s a = (i : ℕ) → i < rooms s → byte (rec s i) 0 ≡ 3 → byte (rec a (heading_of (rec s i))) 0 ≡ 1 → rec a i ≡ rec s i

keeps-kind : (r : List ℕ) → keeps_text r ≡ true → byte r 0 ≡ 1
unfolding keeps_text
keeps-kind r e = typed-kind 1 r (and_left (simple r) _ e)

module _ (s m : List ℕ) (c : Sound s) (d : Less s m) (q : round_stores m ≡ []) (texts : TextsStay s m) where
  in-m : (i : ℕ) → i < rooms s → i < rooms m
  in-m i l = rw d.long l

  -- what is cleared
  gone : ℕ → Bool
  gone i = is_kind 0 (rec m i)

  here : (i k : ℕ) → byte (rec m i) 0 ≡ k → k ≢ 0 → gone i ≡ false
  unfolding gone
  here i k e n = ne_eqb _ _ (λ (z : byte (rec m i) 0 ≡ 0). n (sym e ∙ z))

  -- what is not stays but for counts
  left : (i : ℕ) → gone i ≡ false → Alike (rec s i) (rec m i)
  unfolding gone
  left i g = go (below s m c.whole d i)
    where
      go : Below (rec s i) (rec m i) → Alike (rec s i) (rec m i)
      go (free e) = absurd (not-both (eq-eqb _ _ (kind-blank (rec m i) e)) g)
      go (stays x) = x

  kept : (i : ℕ) → gone i ≡ false → is_kind 1 (rec s i) ≡ false → rec m i ≡ rec s i
  kept i g n = alike_same (rec s i) (rec m i) (left i g) n

  moored : (i : ℕ) → i < rooms s → gone i ≡ false → byte (rec s i) 0 ≡ 2 → anchored m (rec s i) ≡ true
  moored i l g k =
      let r : rec m i ≡ rec s i = kept i g (rw k) in
      true-by (anchored m (rec s i)) (λ n. not-both (rw (r, k, n)) (no-adrift m q i (in-m i l)))

  -- an entry that stays keeps its directory and its heading
  holder-here : (i : ℕ) → i < rooms s → gone i ≡ false → byte (rec s i) 0 ≡ 2 → directory (rec s (holder_of (rec s i))) ≡ true
      → gone (holder_of (rec s i)) ≡ false
  unfolding anchored
  holder-here i l g k f =
      go (or_cases (is_base (rec s i)) _ (and_right (is_kind 1 (rec m (heading_named (rec s i)))) _ (moored i l g k)))
    where
      go : (is_base (rec s i) ≡ true) ⊎ (is_kind 1 (rec m (holder_of (rec s i))) ≡ true) → gone (holder_of (rec s i)) ≡ false
      go (inl b) =
          let h : byte (rec s (holder_of (rec s i))) 0 ≡ 1 = typed-kind 0 (rec s (holder_of (rec s i))) f in
          let z : holder_of (rec s i) ≡ 65535 = eqb-true _ _ b in
          let n : ⊥ = omega (arith, within s (holder_of (rec s i)) c.whole (omega arith), c.few) in
          absurd n
      go (inr h) = here (holder_of (rec s i)) 1 (eqb-true _ _ h) (omega arith)

  target-here : (i : ℕ) → i < rooms s → gone i ≡ false → byte (rec s i) 0 ≡ 2 → gone (heading_named (rec s i)) ≡ false
  unfolding anchored
  target-here i l g k = here (heading_named (rec s i)) 1 (eqb-true _ _ (and_left (is_kind 1 (rec m (heading_named (rec s i)))) _ (moored i l g k))) (omega arith)

  -- a heading keeps an entry that names it
  name-here : (i : ℕ) → i < rooms s → gone i ≡ false → byte (rec s i) 0 ≡ 1 → (j : ℕ) × (j < rooms s) × (gone j ≡ false) × (names i (rec s j) ≡ true)
  unfolding named
  name-here i l g k =
      let h : byte (rec m i) 0 ≡ 1 = alike-kind (rec s i) (rec m i) (left i g) ∙ k in
      let y : named m i ≡ true = true-by (named m i) (λ n. not-both (rw (h, n)) (no-orphan m q i (in-m i l))) in
      let x = any-true (λ j. names i (rec m j)) (rooms s) (rw d.long at y) in
      at x.0 x.1 x.2
    where
      at : (j : ℕ) → j < rooms s → names i (rec m j) ≡ true → (j : ℕ) × (j < rooms s) × (gone j ≡ false) × (names i (rec s j) ≡ true)
      at j b n = let e = names-kind i (rec m j) n in (j, b, here j 2 e (omega arith), rw (entry-same s m c.whole d j e) at n)

  -- and text goes with its heading
  text-with : (i : ℕ) → i < rooms s → byte (rec s i) 0 ≡ 3 → gone i ≡ gone (heading_of (rec s i))
  text-with i l k = same_truth (gone i) (gone h) (λ g. true-by (gone h) (λ n. not-both g (stay n))) (λ g. true-by (gone i) (λ n. not-both g (need n)))
    where
      h : ℕ
      h = heading_of (rec s i)

      stay : gone (heading_of (rec s i)) ≡ false → gone i ≡ false
      stay n =
          let e : byte (rec m (heading_of (rec s i))) 0 ≡ 1 =
          alike-kind (rec s (heading_of (rec s i))) (rec m (heading_of (rec s i))) (left (heading_of (rec s i)) n) ∙ text-points 65535 s c i l k in
          here i 3 (rw (texts i l k e, k)) (omega arith)

      need : gone i ≡ false → gone (heading_of (rec s i)) ≡ false
      need n =
          let r : rec m i ≡ rec s i = kept i n (rw k) in
          let y : keeps_text (rec m (heading_of (rec s i))) ≡ true =
          true-by (keeps_text (rec m (heading_of (rec s i)))) (λ z. not-both (rw (r, k, z)) (no_stray m q i (in-m i l))) in
          here (heading_of (rec s i)) 1 (keeps-kind (rec m (heading_of (rec s i))) y) (omega arith)

  spared : Spared 65535 gone s
  spared = record { holders = holder-here; targets = target-here; named = λ i l g k. inl (name-here i l g k); texts = text-with }

  -- the sound table without what is cleared
  f : List ℕ
  f = wiped gone s

  cleared : Cleared gone s f
  unfolding f
  cleared = record { long = length_run s _; each = rec-wiped s gone }

  each : EachAlike f m
  each i l = go (gone i) refl (cleared.each i (rw cleared.long at l)) (below s m c.whole d i)
    where
      in-s : i < rooms s
      in-s = rw cleared.long at l

      go : (b : Bool) → gone i ≡ b → rec f i ≡ cond b blank (rec s i) → Below (rec s i) (rec m i) → Alike (rec f i) (rec m i)
      go false g e x = rw e (left i g)
      go true g e (free z) = equal (z ∙ sym e)
      go true g e (stays x) =
          let k : byte (rec s i) 0 ≡ 0 = sym (alike-kind (rec s i) (rec m i) x) ∙ (unfold gone in eqb-true _ _ g) in
          equal (alike_same (rec s i) (rec m i) x (rw k) ∙ free-blank (rec s i) (length-rec s i in-s) ((c.own i in-s).free k) ∙ sym e)

  pub lesser-sound : Sound m
  lesser-sound = alike-clauses 65535 f m (cleared-sound 65535 65535 gone s f c cleared spared) (d.long ∙ sym cleared.long) each
