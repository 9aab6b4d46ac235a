-- A new file laid on free records: its stores go to different rooms, so that each is there afterwards and all else stays.
-- So the table has grown by it, and the rooms after the file's are still free.
use mathlib.Core.List.{List}
use mathlib.Core.Logic.{◌⊎◌, inl, inr, ◌≢◌}
use mathlib.Core.Path.{◌≡◌, refl, ◌∙◌}
use Prim.Native.Nat.{ℕ, ◌+◌, ◌^◌, ◌≤◌, ◌<◌}
use native.Mathlib.Omega.{arith}
use lib.ListN.{length}
use Rattle.paper.specs.Record.{byte, text_record, heading_record}
use Rattle.paper.specs.Table.{rooms, rec, lay, frees, room}
use Rattle.paper.specs.Block.{blocks, block}
use Rattle.paper.specs.Store.{Store, puts, run}
use Rattle.paper.specs.Effect.{new_file}
use Rattle.laws.proofs.Lists.{Every, every-each, length-each}
use Rattle.laws.proofs.Fields.{text-record-kind, length-text, text-heading, length-heading, heading-record-kind}
use Rattle.laws.proofs.Lay.{lay-same, rooms-lay, length-lay}
use Rattle.laws.proofs.Runs.{length_run, Lays, run-each, stores, each-there}
use Rattle.laws.proofs.Rooms.{room-below, room-kind, room_apart}
use Rattle.laws.proofs.Blocks.{block-most}
use Rattle.demands.proofs.SoundKept.Grown.{New, Grown}

-- what is laid: a heading, and room for it and the text
pub record Roomy (t heading text : List ℕ) : Type 0 where
  pub size : length heading ≡ 32
  pub kind : byte heading 0 ≡ 1
  pub room : blocks (length text) < length (frees t)

pub roomy : (t : List ℕ) (type lev code life n : ℕ) (text : List ℕ) → blocks (length text) < length (frees t)
    → Roomy t (heading_record type lev code life n) text
roomy t type lev code life n text l =
    record { size = length-heading type lev code life n; kind = heading-record-kind type lev code life n; room = l }

-- the table with the file, and the file's text at position p
abbrev pub filed : List ℕ → List ℕ → List ℕ → List ℕ
filed t heading text = run t (new_file t heading text)

abbrev pub text_new : List ℕ → List ℕ → ℕ → List ℕ
text_new t text p = text_record (room t 0) p (block text p)

abbrev text_stores : List ℕ → List ℕ → List Store
text_stores t text = stores (λ p. room t (p + 1)) (text_new t text) (blocks (length text))

-- the records of the table with the file: its heading, its text, and those of t
pub data Look (t heading text : List ℕ) (i : ℕ) : Type 0 where
  new-heading : i ≡ room t 0 → rec (filed t heading text) i ≡ heading → Look t heading text i
  new-text : (p : ℕ) → p < blocks (length text) → i ≡ room t (p + 1) → rec (filed t heading text) i ≡ text_new t text p → Look t heading text i
  old : rec (filed t heading text) i ≡ rec t i → Look t heading text i

pub length-file : (t heading text : List ℕ) → length (new_file t heading text) ≡ blocks (length text) + 1
unfolding new_file
length-file t heading text = rw (length-each (λ p. puts (room t (p + 1)) (text_new t text p)) (blocks (length text))) (omega arith)

module _ (t heading text : List ℕ) (n : Roomy t heading text) where
  pub room_in : (m : ℕ) → m ≤ blocks (length text) → room t m < rooms t
  room_in m l = room-below t m (omega (arith, n.room))

  text-fits : (p : ℕ) → p < blocks (length text) → length (text_new t text p) ≡ 32
  text-fits p l = length-text (room t 0) p (block text p) (block-most text p)

  text-apart : (p : ℕ) → p < blocks (length text) → room t (p + 1) ≢ room t 0
  text-apart p l e = let z : p + 1 ≡ 0 = room_apart t (p + 1) 0 (omega (arith, n.room)) (omega (arith, n.room)) e in omega arith

  -- the heading is there, since the stores after it go elsewhere
  others : (u : List ℕ) → length u ≡ length t → Every (Lays (λ i r. i ≢ room t 0) (rooms u)) (text_stores t text)
  others u e =
      every-each _ _ (blocks (length text))
      (λ p l. record { within = rw e (room_in (p + 1) (omega arith)); size = text-fits p l; holds = text-apart p l })

  pub heading-there : rec (filed t heading text) (room t 0) ≡ heading
  unfolding new_file run
  heading-there =
      go (run-each (λ i r. i ≢ room t 0) u (text_stores t text) (others u (length-lay t (room t 0) heading)) (room t 0)
      (rw rooms-lay (room_in 0 (omega arith))))
    where
      u : List ℕ
      u = lay t (room t 0) heading

      go : (rec (filed t heading text) (room t 0) ≡ rec u (room t 0)) ⊎ (room t 0 ≢ room t 0) → rec (filed t heading text) (room t 0) ≡ heading
      go (inl e) = e ∙ lay-same t (room t 0) heading n.size (room_in 0 (omega arith))
      go (inr e) = absurd (e refl)

  pub text-there : (p : ℕ) → p < blocks (length text) → rec (filed t heading text) (room t (p + 1)) ≡ text_new t text p
  unfolding new_file run
  text-there =
      each-there (lay t (room t 0) heading) (λ p. room t (p + 1)) (text_new t text) (blocks (length text))
      (λ p l. rw rooms-lay (room_in (p + 1) (omega arith))) text-fits
      (λ p q a b e. let z : p + 1 ≡ q + 1 = room_apart t (p + 1) (q + 1) (omega (arith, n.room)) (omega (arith, n.room)) e in omega arith)

  abbrev pub Laid : ℕ → List ℕ → Type 0
  Laid i r = ((i ≡ room t 0) × (r ≡ heading)) ⊎ ((p : ℕ) × (p < blocks (length text)) × (i ≡ room t (p + 1)) × (r ≡ text_new t text p))

  pub each_laid : Every (Lays Laid (rooms t)) (new_file t heading text)
  unfolding new_file
  each_laid = (
    record { within = room_in 0 (omega arith); size = n.size; holds = inl (refl, refl) },
    every-each _ _ (blocks (length text)) (λ p l. record { within = room_in (p + 1) (omega arith); size = text-fits p l; holds = inr (p, l, refl, refl) }),
  )

  pub look : (i : ℕ) → i < rooms t → Look t heading text i
  look i l = go (run-each Laid t (new_file t heading text) each_laid i l)
    where
      go : (rec (filed t heading text) i ≡ rec t i) ⊎ Laid i (rec (filed t heading text) i) → Look t heading text i
      go (inl e) = old e
      go (inr (inl e)) = new-heading e.0 e.1
      go (inr (inr e)) = new-text e.0 e.1 e.2 e.3

  -- a room of the file was free
  pub was_free : (m : ℕ) → m ≤ blocks (length text) → byte (rec t (room t m)) 0 ≡ 0
  was_free m l = room-kind t m (omega (arith, n.room))

  pub text-kind : (p : ℕ) → byte (text_new t text p) 0 ≡ 3
  text-kind p = text-record-kind (room t 0) p (block text p)

  -- the number of its heading fits two bytes
  pub small : rooms t ≤ 2048 → room t 0 < 256 ^ 2
  small b = omega (arith, room_in 0 (omega arith))

  pub filed-grown : rooms t ≤ 2048 → Grown t (filed t heading text)
  filed-grown b = record { long = length_run t (new_file t heading text); each = λ i l. go i (look i l) }
    where
      go : (i : ℕ) → Look t heading text i → (rec (filed t heading text) i ≡ rec t i) ⊎ New t (rec t i) (rec (filed t heading text) i)
      go i (old e) = inl e
      go i (new-heading e r) = inr (record { free = rw e (was_free 0 (omega arith)); kind = inl (rw r n.kind) })
      go i (new-text p l e r) =
          inr (record {
            free = rw e (was_free (p + 1) (omega arith));
            kind = inr (rw r (text-kind p), rw (r, text-heading (room t 0) p (block text p) (small b)) (was_free 0 (omega arith)));
          })

  -- the rooms after the file's are still free
  pub still-free : (m : ℕ) → blocks (length text) < m → m < length (frees t) → byte (rec (filed t heading text) (room t m)) 0 ≡ 0
  still-free m b l = go (look (room t m) (room-below t m l))
    where
      go : Look t heading text (room t m) → byte (rec (filed t heading text) (room t m)) 0 ≡ 0
      go (old e) = rw e (room-kind t m l)
      go (new-heading e r) = let z : m ≡ 0 = room_apart t m 0 l (omega arith) e in let y : ⊥ = omega arith in absurd y
      go (new-text p k e r) = let z : m ≡ p + 1 = room_apart t m (p + 1) l (omega arith) e in let y : ⊥ = omega arith in absurd y
