-- The stores of plans are alike on twins. Clearings, headings and texts are the same records in the same places; an entry with a link name is laid
-- by both layouts behind the same nine bytes. What a file gives back is asked of its heading, and an aimed entry names no entry.
use mathlib.Core.Bool.{true, not}
use mathlib.Core.List.{List, ◌∷◌, ◌++◌}
use mathlib.Core.Logic.{◌≢◌, inl}
use mathlib.Core.Path.{◌≡◌, refl, sym, ap, ◌∙◌}
use Prim.Native.Nat.{ℕ, ◌+◌}
use native.Mathlib.Omega.{arith}
use lib.ListN.{length, take, set, length-take, length-set, get_or-append}
use lib.Seq.{take_at, get_or-take, get_or-set_other, length-sets}
use Rattle.paper.specs.Number.{bytes_of}
use Rattle.paper.specs.Scan.{each_below}
use Rattle.paper.specs.Record.{byte, names, heading_named, text_record, rewritten}
use Rattle.paper.specs.Layout.{Layout, entry_record}
use Rattle.paper.specs.Table.{rooms, rec, room, text_room}
use Rattle.paper.specs.Name.{link_name}
use Rattle.paper.specs.Block.{blocks, block, blocks_of}
use Rattle.paper.specs.Store.{Store, puts, clear}
use Rattle.paper.specs.Effect.{bared, freed, with_counts, lost, settled, with_entries, losing, new_file, renamed, recoded, destroying, emptying, laying, rewriting}
use Rattle.laws.proofs.Blocks.{block-most}
use Rattle.laws.proofs.Fields.{text-record-kind, length-text}
use Rattle.laws.proofs.Rewritten.{rewritten-byte}
use Rattle.layouts.proofs.Lawful.{Lawful}
use Rattle.layouts.proofs.Twin.{Twin, entry, front, same_number, same_names, same-directory}
use Rattle.layouts.proofs.Twins.{Twins, Lays, Alike, none, more, both, both-clear, lay-twins, run-twins, alike-append, alike-each, alike-clears}
use Rattle.layouts.proofs.Shown.{room-twin, text_room-twin, named-twin, peopled-twin, same-rec, blocks-twin, recounts-twin}
use Rattle.layouts.proofs.Outcomes.{both_ways}

-- ---- entries

module _ {A B : Layout} (a : Lawful A) (b : Lawful B) where
  -- one link name behind the same nine bytes
  behind : (front name : List ℕ) → length front ≡ 9 → byte front 0 ≡ 2 → link_name name ≡ true → Twin A B (front ++ A.field name) (front ++ B.field name)
  behind front name e k l =
      entry name (get_or-append front (A.field name) 0 0 (omega arith) ∙ k)
      (take_at front (A.field name) 9 e ∙ sym (take_at front (B.field name) 9 e)) (a.lays front name e l) (b.lays front name e l)

  pub entry-lays : (i code holder heading user : ℕ) (name : List ℕ) → link_name name ≡ true
      → Lays A B (puts i (entry_record A code holder heading user name)) (puts i (entry_record B code holder heading user name))
  unfolding entry_record bytes_of
  entry-lays i code holder heading user name l =
      let f : List ℕ = 2 ∷ code ∷ bytes_of 2 holder ++ bytes_of 2 heading ++ bytes_of 3 user in
      record { place = refl; size = (a.lays f name refl l).size; twin = behind f name refl refl l }

  pub renamed-lays : (i : ℕ) {r q : List ℕ} (name : List ℕ) → Twin A B r q → length r ≡ 32 → byte r 0 ≡ 2 → link_name name ≡ true
      → Lays A B (puts i (renamed A r name)) (puts i (renamed B q name))
  unfolding renamed
  renamed-lays i {r} {q} name w e k l =
      let n : length (take 9 r) ≡ 9 = rw length-take (omega arith) in
      rw (← (front w))
      (record { place = refl; size = (a.lays (take 9 r) name n l).size; twin = behind (take 9 r) name n (get_or-take 9 r 0 0 (omega arith) ∙ k) l })

-- ---- all else

module _ {A B : Layout} {t s : List ℕ} (w : Twins A B t s) where
  bared-twin : (h : ℕ) → byte (rec t h) 0 ≢ 2 → Alike A B (bared t h) (bared s h)
  bared-twin h n =
      rw (blocks-twin w h n)
      (alike-each (λ p. clear (text_room t h p)) (λ p. clear (text_room s h p)) (blocks_of s h) (λ p _. rw (text_room-twin w h p) (both-clear (text_room s h p))))

  pub freed-twin : (h : ℕ) → byte (rec t h) 0 ≢ 2 → Alike A B (freed t h) (freed s h)
  unfolding freed
  freed-twin h n = more (both-clear h) (bared-twin h n)

  pub counts-after : {xs ys : List Store} → Alike A B xs ys → Alike A B (with_counts t xs) (with_counts s ys)
  counts-after k = alike-append k (recounts-twin (run-twins k w))

  -- a record laid in an entry's place
  module _ (e : ℕ) {r q : List ℕ} (l : Lays A B (puts e r) (puts e q)) where
    lost-twin : lost t e r ≡ lost s e q
    unfolding lost
    lost-twin =
        rw (same_number (w.each e) 2 4 (omega arith)) (ap not (named-twin (lay-twins (puts e r) (puts e q) l w) (heading_named (rec s e))))

    pub losing-twin : losing t e r ≡ losing s e q
    unfolding losing
    losing-twin =
        rw (lost-twin, same_number (w.each e) 2 4 (omega arith), same-directory (w.each (heading_named (rec s e))), peopled-twin w (heading_named (rec s e)))

    pub settled-twin : byte (rec t (heading_named (rec t e))) 0 ≢ 2 → Alike A B (settled t e r) (settled s e q)
    unfolding settled
    settled-twin n =
        both_ways (Alike A B) (lost t e r) (lost s e q) lost-twin
        (rw (← (same_number (w.each e) 2 4 (omega arith))) (freed-twin (heading_named (rec t e)) n)) none

  pub with-entries-twin : (h : ℕ) → with_entries t h ≡ with_entries s h
  with-entries-twin h = rw (same-directory (w.each h), peopled-twin w h)

  -- a text, by position, on free records
  text-lays : (i h p : ℕ) (text : List ℕ) → Lays A B (puts i (text_record h p (block text p))) (puts i (text_record h p (block text p)))
  text-lays i h p text =
      both i (text_record h p (block text p)) (length-text h p (block text p) (block-most text p))
      (λ z. let k : byte (text_record h p (block text p)) 0 ≡ 3 = text-record-kind h p (block text p) in omega arith)

  texts-lay : (f g : ℕ → ℕ) (h : ℕ) (text : List ℕ) (n : ℕ) → ((p : ℕ) → f p ≡ g p)
      → Alike A B (each_below (λ p. puts (f p) (text_record h p (block text p))) n) (each_below (λ p. puts (g p) (text_record h p (block text p))) n)
  texts-lay f g h text n e =
      alike-each (λ p. puts (f p) (text_record h p (block text p))) (λ p. puts (g p) (text_record h p (block text p))) n
      (λ p _. rw (e p) (text-lays (g p) h p text))

  pub new-file-twin : (heading text : List ℕ) → length heading ≡ 32 → byte heading 0 ≢ 2 → Alike A B (new_file t heading text) (new_file s heading text)
  unfolding new_file
  new-file-twin heading text e n =
      rw (room-twin w 0)
      (more (both (room s 0) heading e n)
      (texts-lay (λ p. room t (p + 1)) (λ p. room s (p + 1)) (room s 0) text (blocks (length text)) (λ p. room-twin w (p + 1))))

  pub laying-twin : (h : ℕ) (text : List ℕ) → Alike A B (laying t h text) (laying s h text)
  unfolding laying
  laying-twin h text = texts-lay (room t) (room s) h text (blocks (length text)) (room-twin w)

  -- "DST .. heading cleared, text by position, then every entry naming it"
  pub destroying-twin : (h : ℕ) → byte (rec t h) 0 ≢ 2 → Alike A B (destroying t h) (destroying s h)
  unfolding destroying
  destroying-twin h n =
      alike-append (freed-twin h n)
      (rw (← w.size) (alike-clears (λ i. names h (rec t i)) (λ i. names h (rec s i)) (rooms t) (λ i _. same_names (w.each i) h)))

  -- a heading changed in its place
  module _ (h : ℕ) (e : length (rec t h) ≡ 32) (n : byte (rec t h) 0 ≢ 2) where
    pub recoded-lays : (code : ℕ) → Lays A B (puts h (recoded (rec t h) code)) (puts h (recoded (rec s h) code))
    unfolding recoded
    recoded-lays code =
        rw (← (same-rec w h n))
        (both h (set (rec t h) 3 code) (rw length-set e) (λ z. n (sym (get_or-set_other (rec t h) 3 0 code 0 (λ y. omega arith)) ∙ z)))

    rewritten-lays : (m l : ℕ) → Lays A B (puts h (rewritten (rec t h) m l)) (puts h (rewritten (rec s h) m l))
    rewritten-lays m l =
        let k : byte (rewritten (rec t h) m l) 0 ≡ byte (rec t h) 0 = rewritten-byte (rec t h) m l 0 (λ (y : ◌≡◌ {A = ℕ} 0 5). omega arith, inl (omega arith)) in
        rw (← (same-rec w h n)) (both h (rewritten (rec t h) m l) (unfold rewritten in rw (length-sets, length-set) e) (λ z. n (sym k ∙ z)))

    emptying-twin : Alike A B (emptying t h) (emptying s h)
    unfolding emptying
    emptying-twin = more (rewritten-lays 1 0) (bared-twin h n)

module _ {A B : Layout} {t s : List ℕ} (w : Twins A B t s) (h : ℕ) (e : length (rec t h) ≡ 32) (n : byte (rec t h) 0 ≢ 2) where
  pub rewriting-twin : (text : List ℕ) → Alike A B (rewriting t h text) (rewriting s h text)
  unfolding rewriting
  rewriting-twin text =
      alike-append (alike-append (emptying-twin w h e n) (laying-twin (run-twins (emptying-twin w h e n) w) h text))
      (more (rewritten-lays w h e n 0 (length text)) none)
