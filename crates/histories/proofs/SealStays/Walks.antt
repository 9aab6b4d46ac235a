-- Walks, settling, listings and the texts of other files are the same on two such tables: a walk looks at entries and headings alone, a
-- listing too, and the text of another heading is in text records of its own.
use mathlib.Core.Bool.{Bool, true, false, ◌&&◌, not}
use mathlib.Core.List.{List, [], ◌∷◌}
use mathlib.Core.Logic.{◌≢◌}
use mathlib.Core.Path.{◌≡◌, refl, sym, ap, ◌∙◌}
use Prim.Native.Nat.{ℕ, zero, suc, ◌+◌, ◌<◌}
use native.Mathlib.Omega.{arith}
use lib.ListN.{length}
use Rattle.paper.specs.Scan.{Found, at, nowhere, first_below, list_below}
use Rattle.paper.specs.Record.{byte, heading_named, heading_of, text_at, held}
use Rattle.paper.specs.Layout.{name_of, boxed}
use Rattle.paper.specs.Table.{rooms, rec, lay, place, text_room}
use Rattle.paper.specs.Name.{same, dot_w, before}
use Rattle.paper.specs.Entry.{Holder, stands, find, in_directory, base_list}
use Rattle.paper.specs.Block.{blocks_of, file_text}
use Rattle.paper.specs.Walk.{State, applies, file, Step, on, off, looked, look, enter, then, follow, to_directory, to_last}
use Rattle.paper.specs.Store.{Store, clear}
use Rattle.paper.specs.Effect.{freed, lost, settled, losing}
use Rattle.paper.specs.Listing.{line, line_of, insert, in_order, listed, lines, directory_lines, base_lines, opens, entry_by, lines_by, tree, directory_tree, base_tree}
use Rattle.laws.proofs.Tests.{and_left, either, false-by}
use Rattle.laws.proofs.Lists.{Every, join-cong, every-imp, every-below, list-cong}
use Rattle.laws.proofs.Scans.{first-at}
use Rattle.laws.proofs.Entries.{stands-true, text-true}
use Rattle.laws.proofs.Lay.{Whole, rec-past}
use Rattle.demands.proofs.Sound.Clauses.{Sound}
use Rattle.demands.proofs.Request.Steps.{directory-same, last-same}
use Rattle.histories.proofs.SealStays.Veils.{Veil, rooms-veil, byte-veil, named-veil, rec-veil, text-veil, directory-veil, find-veil, unnamed-veil, peopled-veil, text-room-veil, test-veil, lay-veil}

module _ (h : ℕ) (t s : List ℕ) (v : Veil h t s) where
  -- ---- walks

  applies-veil : (e : ℕ) → applies s e ≡ applies t e
  unfolding applies
  applies-veil e = rw (named-veil h t s v e, byte-veil h t s v (heading_named (rec t e)) 3 (omega arith), byte-veil h t s v e 1 (omega arith))

  look-veil : (d : State) (n : List ℕ) → look boxed s d n ≡ look boxed t d n
  unfolding look
  look-veil d n = rw (find-veil h t s v d.holder n) (go (find boxed t d.holder n))
    where
      go : (x : Found) → looked s d x ≡ looked t d x
      go (at e) = rw (applies-veil e)
      go nowhere = refl

  enter-veil : (d : State) → enter s d ≡ enter t d
  unfolding enter
  enter-veil d = rw (named-veil h t s v d.entry, directory-veil h t s v (file t d))

  follow-veil : (d : State) (n : List ℕ) → follow boxed s d n ≡ follow boxed t d n
  unfolding follow
  follow-veil d n = rw (look-veil d n) (go (look boxed t d n))
    where
      go : (x : Step) → then x (enter s) ≡ then x (enter t)
      go (on y) = enter-veil y
      go (off number) = refl

  pub to-directory-veil : (k : ℕ) (d : State) (ns : List (List ℕ)) → to_directory boxed s k d ns ≡ to_directory boxed t k d ns
  to-directory-veil = directory-same t s look-veil follow-veil

  pub to-last-veil : (d : State) (ns : List (List ℕ)) → to_last boxed s d ns ≡ to_last boxed t d ns
  to-last-veil = last-same t s look-veil follow-veil

  -- ---- an entry laid or cleared, and its file

  pub freed-veil : (g : ℕ) → byte (rec t g) 0 ≡ 1 → freed s g ≡ freed t g
  unfolding freed
  freed-veil g k =
      rw (rec-veil h t s v g (λ (z : byte (rec t g) 0 ≡ 3). omega arith))
      (ap (λ (x : List Store). clear g ∷ x) (join-cong _ _ (blocks_of t g) (λ p _. rw (text-room-veil h t s v g p))))

  module _ (c : Sound t) (e : ℕ) (r : List ℕ) (l : e < rooms t) (k : byte (rec t e) 0 ≡ 2) (size : length r ≡ 32) where
    heading-kind : byte (rec t (heading_named (rec t e))) 0 ≡ 1
    heading-kind = c.targets e l k

    lost-veil : lost s e r ≡ lost t e r
    unfolding lost
    lost-veil = rw (named-veil h t s v e, unnamed-veil h (lay t e r) (lay s e r) (lay-veil h t s c.whole v e r size) (heading_named (rec t e)))

    pub losing-veil : losing s e r ≡ losing t e r
    unfolding losing
    losing-veil =
        rw (lost-veil, named-veil h t s v e, directory-veil h t s v (heading_named (rec t e)), peopled-veil h t s v (heading_named (rec t e)))

    pub settled-veil : settled s e r ≡ settled t e r
    unfolding settled
    settled-veil = rw (lost-veil, named-veil h t s v e, freed-veil (heading_named (rec t e)) heading-kind)

  -- ---- the text of another file

  pub file-text-veil : Whole t → (g : ℕ) → g ≢ h → byte (rec t g) 0 ≡ 1 → file_text s g ≡ file_text t g
  unfolding file_text text_room first_below
  file-text-veil w g n k =
      rw (rec-veil h t s v g (λ (z : byte (rec t g) 0 ≡ 3). omega arith))
      (join-cong _ _ (blocks_of t g) (λ p _. rw (text-room-veil h t s v g p) (ap held (one p (first_below (λ i. text_at g p (rec t i)) (rooms t)) refl))))
    where
      one : (p : ℕ) (x : Found) → first_below (λ i. text_at g p (rec t i)) (rooms t) ≡ x → rec s (place t x) ≡ rec t (place t x)
      one p (at i) e =
          let a = text-true g p (rec t i) (first-at (λ i. text_at g p (rec t i)) (rooms t) i e).passes in
          text-veil h t s v i (λ (z : heading_of (rec t i) ≡ h). n (sym a.heading ∙ z))
      one p nowhere e = rw (rec-past t (rooms t) w (omega arith), rec-past s (rooms t) (rw v.long w) (rw (rooms-veil h t s v) (omega arith)))

  -- ---- listings

  abbrev Entries : List ℕ → Type 0
  Entries = Every (λ e. byte (rec t e) 0 ≡ 2)

  entry-veil : (e : ℕ) → byte (rec t e) 0 ≡ 2 → rec s e ≡ rec t e
  entry-veil e k = rec-veil h t s v e (λ (z : byte (rec t e) 0 ≡ 3). omega arith)

  insert-veil : (e : ℕ) (es : List ℕ) → byte (rec t e) 0 ≡ 2 → Entries es → insert boxed s e es ≡ insert boxed t e es
  unfolding insert
  insert-veil e [] k q = refl
  insert-veil e (i ∷ es) k q = rw (entry-veil e k, entry-veil i q.0, insert-veil e es k q.1)

  entries-insert : (e : ℕ) (es : List ℕ) → byte (rec t e) 0 ≡ 2 → Entries es → Entries (insert boxed t e es)
  unfolding insert
  entries-insert e [] k q = (k, tt)
  entries-insert e (i ∷ es) k q = either Entries (before (name_of boxed (rec t e)) (name_of boxed (rec t i))) _ _ (k, q) (q.0, entries-insert e es k q.1)

  order-veil : (es : List ℕ) → Entries es → (in_order boxed s es ≡ in_order boxed t es) × Entries (in_order boxed t es)
  unfolding in_order
  order-veil [] q = (refl, tt)
  order-veil (e ∷ es) q =
      let r = order-veil es q.1 in
      (rw r.0 (insert-veil e (in_order boxed t es) q.0 r.1), entries-insert e (in_order boxed t es) q.0 r.1)

  line-veil : (e : ℕ) → byte (rec t e) 0 ≡ 2 → line_of boxed s e ≡ line_of boxed t e
  unfolding line
  line-veil e k =
      let g : ℕ = heading_named (rec t e) in
      rw (entry-veil e k, byte-veil h t s v g 1 (omega arith), byte-veil h t s v g 2 (omega arith), byte-veil h t s v g 4 (omega arith))

  lines-veil : (es : List ℕ) → Entries es → lines boxed s es ≡ lines boxed t es
  unfolding lines
  lines-veil [] q = refl
  lines-veil (e ∷ es) q = rw (line-veil e q.0, lines-veil es q.1)

  -- the entries that pass a test which text does not
  listed-veil : (test : List ℕ → Bool) → ((r : List ℕ) → test r ≡ true → byte r 0 ≡ 2)
      → (listed boxed s test ≡ listed boxed t test) × Entries (listed boxed t test)
  unfolding listed
  listed-veil test k =
      let e : list_below (λ i. test (rec s i)) (rooms s) ≡ list_below (λ i. test (rec t i)) (rooms t) =
      rw (rooms-veil h t s v) (list-cong _ _ (rooms t) (λ i _. test-veil h t s v test no_text i)) in
      let o = order-veil (list_below (λ i. test (rec t i)) (rooms t)) entries in
      (rw (e, o.0), o.1)
    where
      entries : Entries (list_below (λ i. test (rec t i)) (rooms t))
      entries =
          every-imp (λ i. (i < rooms t) × (test (rec t i) ≡ true)) (λ i. byte (rec t i) 0 ≡ 2)
          (list_below (λ i. test (rec t i)) (rooms t)) (λ i x. k (rec t i) x.1)
          (every-below (λ i. test (rec t i)) (rooms t))

      no_text : (r : List ℕ) → byte r 0 ≡ 3 → test r ≡ false
      no_text r q = false-by (test r) (λ x. omega (arith, k r x))

  listed-lines : (test : List ℕ → Bool) → ((r : List ℕ) → test r ≡ true → byte r 0 ≡ 2)
      → lines boxed s (listed boxed s test) ≡ lines boxed t (listed boxed t test)
  listed-lines test k = let o = listed-veil test k in rw o.0 (lines-veil (listed boxed t test) o.1)

  stands-entry : (d : Holder) (r : List ℕ) → stands d r ≡ true → byte r 0 ≡ 2
  stands-entry d r x = (stands-true d r x).kind

  not_w-entry : (u : ℕ) (r : List ℕ) → (stands (base_list u) r && not (same dot_w (name_of boxed r))) ≡ true → byte r 0 ≡ 2
  not_w-entry u r x = stands-entry (base_list u) r (and_left (stands (base_list u) r) _ x)

  pub directory-lines-veil : (g : ℕ) → directory_lines boxed s g ≡ directory_lines boxed t g
  directory-lines-veil g = listed-lines (stands (in_directory g)) (stands-entry (in_directory g))

  pub base-lines-veil : (u : ℕ) → base_lines boxed s u ≡ base_lines boxed t u
  base-lines-veil u = listed-lines (λ r. stands (base_list u) r && not (same dot_w (name_of boxed r))) (not_w-entry u)

  -- ---- the tree

  opens-veil : (e : ℕ) → opens s e ≡ opens t e
  unfolding opens
  opens-veil e = rw (named-veil h t s v e, directory-veil h t s v (heading_named (rec t e)), applies-veil e)

  by-veil : (f g : ℕ → List ℕ) (blanks : ℕ) → ((i : ℕ) → f i ≡ g i) → (es : List ℕ) → Entries es
      → lines_by (entry_by boxed f s blanks) es ≡ lines_by (entry_by boxed g t blanks) es
  unfolding lines_by entry_by
  by-veil f g blanks x [] q = refl
  by-veil f g blanks x (e ∷ es) q =
      rw (line-veil e q.0, opens-veil e, named-veil h t s v e, x (heading_named (rec t e)), by-veil f g blanks x es q.1)

  tree-veil : (depth blanks : ℕ) (test : List ℕ → Bool) → ((r : List ℕ) → test r ≡ true → byte r 0 ≡ 2)
      → tree boxed s depth blanks test ≡ tree boxed t depth blanks test
  unfolding tree
  tree-veil zero blanks test k = refl
  tree-veil (suc depth) blanks test k =
      let o = listed-veil test k in
      rw o.0
      (by-veil _ _ blanks (λ g. tree-veil depth (blanks + 2) (stands (in_directory g)) (stands-entry (in_directory g))) (listed boxed t test) o.1)

  pub directory-tree-veil : (depth g : ℕ) → directory_tree boxed s depth 0 g ≡ directory_tree boxed t depth 0 g
  directory-tree-veil depth g = tree-veil depth 0 (stands (in_directory g)) (stands-entry (in_directory g))

  pub base-tree-veil : (depth u : ℕ) → base_tree boxed s depth u ≡ base_tree boxed t depth u
  base-tree-veil depth u = tree-veil depth 0 (λ r. stands (base_list u) r && not (same dot_w (name_of boxed r))) (not_w-entry u)
