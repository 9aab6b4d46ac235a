-- The stages joined are the paper's lists: in a table of fit size a record's number is below 65,536, so that the lists of numbers
-- hold the numbers themselves, as many as the request asked for.
use mathlib.Core.Bool.{true}
use mathlib.Core.List.{List, ◌∷◌}
use mathlib.Core.Path.{◌≡◌, ap, ◌∙◌}
use Prim.Native.Nat.{ℕ, ◌+◌, ◌-◌, ◌≤◌, ◌<◌}
use native.Mathlib.Nat.{add-zero}
use native.Mathlib.Omega.{arith}
use lib.ListN.{get_or, length, take}
use lib.Seq.{sets, sets-eq, take-append_seam}
use Rattle.paper.specs.Record.{held}
use Rattle.paper.specs.Table.{sized, rec, room, text_room}
use Rattle.paper.specs.Block.{blocks, blocks_of}
use Rattle.paper.specs.Store.{Store, puts, clear}
use Rattle.paper.specs.Effect.{new_file, bared, freed, laying}
use Rattle.laws.proofs.Lists.{join-cong, length-each}
use Rattle.effects.specs.Listed.{free_rooms, text_rooms, between, gathered}
use Rattle.effects.specs.Stage.{text_store, text_stores, clear_texts, clear_stores}
use Rattle.effects.proofs.Places.{front-here, room_most, sized-most}

-- ---- the numbers listed

pub free-room : (t : List ℕ) (k m : ℕ) → sized t ≡ true → m < k → m < 1002 → get_or (free_rooms t k) m 0 ≡ room t m
free-room t k m e l b = front-here _ 0 1002 k m l b ∙ omega (arith, room_most t m, sized-most t e)

pub text-room : (t : List ℕ) (h k p : ℕ) → sized t ≡ true → p < k → p < 1000 → get_or (text_rooms t h k) p 0 ≡ text_room t h p
text-room t h k p e l b = rw e (front-here _ _ 1000 k p l b)

-- ---- the lists of stores, and of bytes

pub new-file : (t heading text : List ℕ) (k : ℕ) → sized t ≡ true → length text ≤ 24000 → blocks (length text) < k
    → new_file t heading text ≡ puts (room t 0) heading ∷ text_stores (room t 0) (free_rooms t k) 1 text
unfolding new_file text_stores
new-file t heading text k e l b =
    ap (λ (ss : List Store). puts (room t 0) heading ∷ ss)
    (join-cong _ _ (blocks (length text)) (λ p m. rw (free-room t k (p + 1) e (omega arith) (omega arith))))

pub texts-laid : (t : List ℕ) (h : ℕ) (text : List ℕ) → sized t ≡ true → length text ≤ 24000
    → laying t h text ≡ text_stores h (free_rooms t (blocks (length text))) 0 text
unfolding laying text_stores
texts-laid t h text e l =
    join-cong _ _ (blocks (length text)) (λ p m. rw (add-zero p, free-room t (blocks (length text)) p e m (omega arith)))

pub texts-cleared : (t : List ℕ) (h : ℕ) → sized t ≡ true → blocks_of t h ≤ 1000
    → bared t h ≡ clear_texts (text_rooms t h (blocks_of t h)) (blocks_of t h)
texts-cleared t h e l = join-cong _ _ (blocks_of t h) (λ p m. rw (text-room t h (blocks_of t h) p e m (omega arith)))

pub file-freed : (t : List ℕ) (h : ℕ) → sized t ≡ true → blocks_of t h ≤ 1000
    → freed t h ≡ clear_stores h (text_rooms t h (blocks_of t h)) (blocks_of t h)
unfolding freed clear_stores
file-freed t h e l = ap (λ (ss : List Store). clear h ∷ ss) (texts-cleared t h e l)

pub text-gathered : (t : List ℕ) (h p q : ℕ) → sized t ≡ true → q ≤ 1000
    → gathered t (text_rooms t h q) p q ≡ between (λ k. held (rec t (text_room t h k))) p q
text-gathered t h p q e l = join-cong _ _ (q - p) (λ i m. rw (text-room t h q (p + i) e (omega arith) (omega arith)))

-- ---- how many, and how long

pub text-stores-length : (h : ℕ) (r : List ℕ) (m : ℕ) (text : List ℕ) → length (text_stores h r m text) ≡ blocks (length text)
unfolding text_stores
text-stores-length h r m text = length-each (text_store h r m text) (blocks (length text))

pub clear-texts-length : (r : List ℕ) (n : ℕ) → length (clear_texts r n) ≡ n
clear-texts-length r n = length-each (λ p. clear (get_or r p 0)) n

pub clear-stores-length : (h : ℕ) (r : List ℕ) (n : ℕ) → length (clear_stores h r n) ≡ n + 1
unfolding clear_stores
clear-stores-length h r n = omega (arith, clear-texts-length r n)

-- bytes copied to the front are there
pub taken-front : (l s : List ℕ) → length s ≤ length l → take (length s) (sets l 0 s) ≡ s
taken-front l s h = ap (take (length s)) (sets-eq s l 0 (omega arith)) ∙ take-append_seam s _
