-- Each function's plan agrees on twins: the walks end alike, the checks ask what twins show alike, the stores are alike and the reply is the same.
-- An entry names no entry (`Aimed`), so that the file a walk comes to is the same record on both; where it is a heading, it may be changed in place.
use mathlib.Core.Bool.{Bool, true}
use mathlib.Core.List.{List, [], ◌∷◌, ◌++◌}
use mathlib.Core.Logic.{◌≢◌}
use mathlib.Core.Path.{◌≡◌, refl, ap}
use Prim.Native.Nat.{ℕ}
use native.Mathlib.Omega.{arith}
use lib.ListN.{length}
use Rattle.paper.specs.Scan.{Found, at, nowhere}
use Rattle.paper.specs.Record.{byte, entry_code, heading_named, heading_record, level, lifetime}
use Rattle.paper.specs.Code.{joined}
use Rattle.paper.specs.Listing.{directory_lines, base_lines, directory_tree, base_tree}
use Rattle.paper.specs.Layout.{Layout}
use Rattle.paper.specs.Table.{rec, room}
use Rattle.paper.specs.Name.{link_name}
use Rattle.paper.specs.Declaration.{Part, or_else}
use Rattle.paper.specs.Line.{Word}
use Rattle.paper.specs.Check.{Place, whole, Check}
use Rattle.paper.specs.Request.{Begin, own, take_of, give_to}
use Rattle.paper.specs.Entry.{find, in_directory}
use Rattle.paper.specs.Block.{file_text}
use Rattle.paper.specs.Store.{Store, puts}
use Rattle.paper.specs.Walk.{State, start, file, Walked, reached, stopped, to_directory, last_name, End, arrived, astray, ended}
use Rattle.paper.specs.Effect.{Planned, onward, inward, chain_of, end_of, to_holder, to_end, Making, borne, is_found, placing, needed, displacing, making, filing, link_taken, taken, storing, showing, lacking, no_directory, part, beyond_end, full_up, still_peopled, no_room, read_inhibited, write_inhibited, not_simple, is_marked, crd_plan, wrs_plan, cpy_plan, dup_plan, chn_plan, dpr_plan, del_plan, dst_plan, rds_plan, lst_plan, lst_base_plan, lst_tree_plan, lst_base_tree_plan, rewrite_plan}
use Rattle.laws.proofs.Fields.{length-heading, heading-record-kind}
use Rattle.laws.proofs.Lay.{within, length-rec}
use Rattle.layouts.proofs.Lawful.{Lawful}
use Rattle.layouts.proofs.Twin.{same_byte, same-directory}
use Rattle.layouts.proofs.Twins.{Twins, Lays, Alike, none, more, both-clear, alike-length, alike-append}
use Rattle.layouts.proofs.Shown.{find-twin, full-twin, frees-twin, room-twin, same-rec, file_text-twin}
use Rattle.layouts.proofs.Outcomes.{Agree, halts, plans}
use Rattle.layouts.proofs.Walk.{found-entry, Landed, lands, file-twin, to_directory-twin, ended-twin}
use Rattle.layouts.proofs.Listing.{standing, based, listing-twin, tree-twin}
use Rattle.layouts.proofs.Stores.{entry-lays, renamed-lays, counts-after, losing-twin, settled-twin, with-entries-twin, new-file-twin, destroying-twin, recoded-lays, rewriting-twin}

-- an entry names no entry; and where all is right, a heading
abbrev pub Aimed : List ℕ → Type 0
Aimed t = (i : ℕ) → byte (rec t i) 0 ≡ 2 → byte (rec t (heading_named (rec t i))) 0 ≢ 2

abbrev pub Anchors : List ℕ → Type 0
Anchors t = (i : ℕ) → byte (rec t i) 0 ≡ 2 → byte (rec t (heading_named (rec t i))) 0 ≡ 1

pub anchors-aimed : (t : List ℕ) → Anchors t → Aimed t
anchors-aimed t h i k z = let e = h i k in omega arith

-- ---- walks

module _ {A B : Layout} {t s : List ℕ} (w : Twins A B t s) where
  holder-twin : (u argument : ℕ) (v : Word) (f g : State → Planned) → ((d : State) → Agree A B (f d) (g d))
      → Agree A B (to_holder A t u argument v f) (to_holder B s u argument v g)
  holder-twin u argument v f g h = rw (to_directory-twin w 1 (start u) (chain_of v)) (go (to_directory B s 1 (start u) (chain_of v)))
    where
      go : (x : Walked) → Agree A B (onward argument x f) (onward argument x g)
      go (reached d) = h d
      go (stopped number link) = halts _

  end-twin : (u argument : ℕ) (v : Word) (f g : State → State → Planned) → ((d x : State) → byte (rec t x.entry) 0 ≡ 2 → Agree A B (f d x) (g d x))
      → Agree A B (to_end A t u argument v f) (to_end B s u argument v g)
  end-twin u argument v f g h = rw (← (ended-twin w (start u) (chain_of v))) (go (ended A t (start u) (chain_of v)) (lands A t (start u) (chain_of v)))
    where
      go : (x : End) → Landed t x → Agree A B (inward argument x f) (inward argument x g)
      go (arrived d x) k = h d x k
      go (astray number link) k = halts _

-- ---- a new entry

module _ {A B : Layout} {t s : List ℕ} (w : Twins A B t s) (aims : Aimed t) (place : Place) (d : State) (name : List ℕ) {xs ys : List Store} {r q : List ℕ}
    (k : Alike A B xs ys) (l : (i : ℕ) → Lays A B (puts i r) (puts i q)) where
  abbrev ours : Making
  ours = record { place = place; directory = d; name = name; first = xs; entry = r }

  abbrev theirs : Making
  theirs = record { place = place; directory = d; name = name; first = ys; entry = q }

  displacing-twin : (f : Found) → displacing t f r ≡ displacing s f q
  displacing-twin (at e) = losing-twin w e (l e)
  displacing-twin nowhere = refl

  needed-twin : (f : Found) → needed ours f ≡ needed theirs f
  needed-twin (at e) = alike-length k
  needed-twin nowhere = rw (alike-length k)

  placing-twin : (f : Found) → find A t d.holder name ≡ f → Alike A B (placing t ours f) (placing s theirs f)
  placing-twin (at e) h =
      alike-append (counts-after w (alike-append k (more (l e) none))) (settled-twin w e (l e) (aims e (found-entry A t d.holder name e h)))
  placing-twin nowhere h =
      rw (room-twin w (length xs), alike-length k) (counts-after w (alike-append k (more (l (room s (length ys))) none)))

  checks-twin : (u v x : List Check)
      → u ++ write_inhibited place d ∷ v ++ full_up A t ours ∷ still_peopled place (displacing t (borne A t ours) r) ∷ no_room A t ours ∷ x
      ≡ u ++ write_inhibited place d ∷ v ++ full_up B s theirs ∷ still_peopled place (displacing s (borne B s theirs) q) ∷ no_room B s theirs ∷ x
  checks-twin u v x =
      rw (
        find-twin w d.holder name,
        full-twin w d.holder,
        displacing-twin (find B s d.holder name),
        frees-twin w,
        needed-twin (find B s d.holder name),
      )

  placed-twin : Alike A B (placing t ours (borne A t ours)) (placing s theirs (borne B s theirs))
  placed-twin = rw (← (find-twin w d.holder name)) (placing-twin (find A t d.holder name) refl)

  making-twin : (u v v₁ x : List Check) → v ≡ v₁ → Agree A B (making A t ours u v x) (making B s theirs u v₁ x)
  unfolding making
  making-twin u v v₁ x e =
      rw e (plans (record { checks = checks-twin u v₁ x; stores = placed-twin; displaced = ap is_found (find-twin w d.holder name); reply = refl }))

  -- "A give never displaces."
  taken-twin : (to : Begin) → link_taken A t to ours ≡ link_taken B s to theirs
  taken-twin own = refl
  taken-twin (take_of n) = refl
  taken-twin (give_to n) = rw (find-twin w d.holder name)

  giving-twin : (to : Begin) → Agree A B (making A t ours [] (link_taken A t to ours) []) (making B s theirs [] (link_taken B s to theirs) [])
  giving-twin to = making-twin [] (link_taken A t to ours) (link_taken B s to theirs) [] (taken-twin to)

-- ---- the plans

module _ {A B : Layout} {t s : List ℕ} (w : Twins A B t s) (aims : Aimed t) where
  -- the file that a walk came to is one record
  file-rec : (x : State) → byte (rec t x.entry) 0 ≡ 2 → rec t (file s x) ≡ rec s (file s x)
  file-rec x k = same-rec w (file s x) (rw (file-twin w x) at (aims x.entry k))

  file-text : (x : State) → byte (rec t x.entry) 0 ≡ 2 → file_text t (file s x) ≡ file_text s (file s x)
  file-text x k = file_text-twin w (file s x) (rw (file-twin w x) at (aims x.entry k))

-- stores alike behind the same checks; and what is shown
storing-twin : {A B : Layout} (x y : List Check) {xs ys : List Store} → x ≡ y → Alike A B xs ys → Agree A B (storing x xs) (storing y ys)
storing-twin x y e k = plans (record { checks = e; stores = k; displaced = refl; reply = refl })

shown : {A B : Layout} (x late : List Check) (out reply : List ℕ) → Agree A B (showing x out reply late) (showing x out reply late)
shown x late out reply = plans (record { checks = refl; stores = none; displaced = refl; reply = refl })

module _ {A B : Layout} (a : Lawful A) (b : Lawful B) {t s : List ℕ} (w : Twins A B t s) (aims : Aimed t) where
  -- a new file
  filing-twin : (argument : ℕ) (v : Word) (d : State) (code type lev code₁ life n : ℕ) (text : List ℕ) (x y z : List Check)
      → link_name (last_name (chain_of v)) ≡ true
      → Agree A B (making A t (filing A t argument v d code (heading_record type lev code₁ life n) text) x y z)
      (making B s (filing B s argument v d code (heading_record type lev code₁ life n) text) x y z)
  filing-twin argument v d code type lev code₁ life n text x y z l =
      let k : byte (heading_record type lev code₁ life n) 0 ≡ 1 = heading-record-kind type lev code₁ life n in
      making-twin w aims (end_of argument v) d (last_name (chain_of v))
      (new-file-twin w (heading_record type lev code₁ life n) text (length-heading type lev code₁ life n) (λ q. omega arith))
      (λ i. rw (room-twin w 0) (entry-lays a b i code d.holder.heading (room s 0) d.holder.user (last_name (chain_of v)) l)) x y y z refl

  pub crd-twin : (u : ℕ) (name : Word) (lev code : Part) → link_name (last_name (chain_of name)) ≡ true
      → Agree A B (crd_plan A t u name lev code) (crd_plan B s u name lev code)
  unfolding crd_plan
  crd-twin u name lev code l =
      holder-twin w u 1 name _ _ (λ d. filing-twin 1 name d (or_else code 0) 0 (or_else lev 0) (or_else code 0) 1 0 [] [] [] [] l)

  pub wrs-twin : (u : ℕ) (text : List ℕ) (life : ℕ) (lev code : Part) (name : Word) → link_name (last_name (chain_of name)) ≡ true
      → Agree A B (wrs_plan A t u text life lev code name) (wrs_plan B s u text life lev code name)
  unfolding wrs_plan
  wrs-twin u text life lev code name l =
      holder-twin w u 2 name _ _ (λ d. filing-twin 2 name d (or_else code 0) 1 (or_else lev 0) (or_else code 0) life (length text) text [] [] [] l)

  pub cpy-twin : (v u : ℕ) (old new : Word) (life lev code : Part) → link_name (last_name (chain_of new)) ≡ true
      → Agree A B (cpy_plan A t v u old new life lev code) (cpy_plan B s v u old new life lev code)
  unfolding cpy_plan
  cpy-twin v u old new life lev code l =
      end-twin w v 1 old _ _ (λ _ f k. holder-twin w u 2 new _ _ (λ d.
      let source : List ℕ = rec s (file s f) in
      let text : List ℕ = file_text s (file s f) in
      rw (file-twin w f, file-rec w aims f k, file-text w aims f k)
      (filing-twin 2 new d (or_else code 0) 1 (or_else lev (level source)) (or_else code 0) (or_else life (lifetime source)) (length text) text _ _ _ l)))

  pub dup-twin : (v u : ℕ) (to : Begin) (old new : Word) (code : Part) → link_name (last_name (chain_of new)) ≡ true
      → Agree A B (dup_plan A t v u to old new code) (dup_plan B s v u to old new code)
  unfolding dup_plan
  dup-twin v u to old new code l =
      end-twin w v 1 old _ _ (λ _ f k. holder-twin w u 2 new _ _ (λ d.
      let code₁ : ℕ = joined (entry_code (rec s f.entry)) (or_else code 0) in
      rw (same_byte (w.each f.entry) 1 (omega arith), file-twin w f)
      (giving-twin w aims (end_of 2 new) d (last_name (chain_of new)) none
      (λ i. entry-lays a b i code₁ d.holder.heading (file s f) d.holder.user (last_name (chain_of new)) l) to)))

  pub chn-twin : (u : ℕ) (old link : Word) → link_name (last_name link.names) ≡ true → Agree A B (chn_plan A t u old link) (chn_plan B s u old link)
  unfolding chn_plan
  chn-twin u old link l =
      end-twin w u 1 old _ _ (λ d f k.
      let e : length (rec t f.entry) ≡ 32 = length-rec t f.entry (within t f.entry w.whole (λ z. omega arith)) in
      storing-twin _ _
      (ap (λ (x : Found). write_inhibited (end_of 1 old) d ∷ taken (whole 2) x ∷ []) (find-twin w d.holder (last_name link.names)))
      (more (renamed-lays a b f.entry (last_name link.names) (w.each f.entry) e k l) none))

module _ {A B : Layout} {t s : List ℕ} (w : Twins A B t s) (aims : Aimed t) where
  pub del-twin : (u argument : ℕ) (name : Word) → Agree A B (del_plan A t u argument name) (del_plan B s u argument name)
  unfolding del_plan
  del-twin u argument name =
      end-twin w u argument name _ _ (λ d f k.
      storing-twin _ _
      (ap (λ (x : Bool). write_inhibited (end_of argument name) d ∷ still_peopled (end_of argument name) x ∷ [])
      (losing-twin w f.entry (both-clear f.entry)))
      (alike-append (counts-after w (more (both-clear f.entry) none)) (settled-twin w f.entry (both-clear f.entry) (aims f.entry k))))

  pub dst-twin : (u argument : ℕ) (name : Word) → Agree A B (dst_plan A t u argument name) (dst_plan B s u argument name)
  unfolding dst_plan
  dst-twin u argument name =
      end-twin w u argument name _ _ (λ d f k.
      rw (file-twin w f)
      (storing-twin _ _
      (ap (λ (x : Bool). write_inhibited (end_of argument name) f ∷ still_peopled (end_of argument name) x ∷ []) (with-entries-twin w (file s f)))
      (counts-after w (destroying-twin w (file s f) (rw (file-twin w f) at (aims f.entry k))))))

  pub rds-twin : (u : ℕ) (reply : List ℕ) (name : Word) (first count : Part)
      → Agree A B (rds_plan A t u reply name first count) (rds_plan B s u reply name first count)
  unfolding rds_plan
  rds-twin u reply name first count =
      end-twin w u 1 name _ _ (λ d f k.
      rw (file-twin w f, file-rec w aims f k, file-text w aims f k)
      (shown (read_inhibited (end_of 1 name) f ∷ not_simple (end_of 1 name) s f ∷ [])
      (is_marked (end_of 1 name) s f ∷ beyond_end (whole 2) first (file_text s (file s f)) ∷ [])
      (part (file_text s (file s f)) first count) reply))

  pub lst-twin : (u : ℕ) (reply : List ℕ) (name : Word) → Agree A B (lst_plan A t u reply name) (lst_plan B s u reply name)
  unfolding lst_plan
  lst-twin u reply name =
      end-twin w u 1 name _ _ (λ d f k.
      rw (file-twin w f, same-directory (w.each (file s f)), listing-twin w _ _ (standing w (in_directory (file s f))))
      (shown (read_inhibited (end_of 1 name) f ∷ no_directory (end_of 1 name) s f ∷ []) [] (directory_lines B s (file s f)) reply))

  pub lst-base-twin : (u : ℕ) (reply : List ℕ) → Agree A B (lst_base_plan A t u reply) (lst_base_plan B s u reply)
  unfolding lst_base_plan
  lst-base-twin u reply = rw (listing-twin w _ _ (based w u)) (shown [] [] (base_lines B s u) reply)

  pub tree-agrees : (u : ℕ) (reply : List ℕ) (name : Word) (depth : ℕ) → Agree A B (lst_tree_plan A t u reply name depth) (lst_tree_plan B s u reply name depth)
  unfolding lst_tree_plan
  tree-agrees u reply name depth =
      end-twin w u 1 name _ _ (λ d f k.
      rw (file-twin w f, same-directory (w.each (file s f)), tree-twin w depth 0 _ _ (standing w (in_directory (file s f))))
      (shown (read_inhibited (end_of 1 name) f ∷ no_directory (end_of 1 name) s f ∷ []) [] (directory_tree B s depth 0 (file s f)) reply))

  pub base-tree-agrees : (u : ℕ) (reply : List ℕ) (depth : ℕ) → Agree A B (lst_base_tree_plan A t u reply depth) (lst_base_tree_plan B s u reply depth)
  unfolding lst_base_tree_plan
  base-tree-agrees u reply depth = rw (tree-twin w depth 0 _ _ (based w u)) (shown [] [] (base_tree B s depth u) reply)

-- a heading changed in its place
module _ {A B : Layout} {t s : List ℕ} (w : Twins A B t s) (anchors : Anchors t) where
  heading-size : (x : State) → byte (rec t x.entry) 0 ≡ 2 → length (rec t (file s x)) ≡ 32
  heading-size x k =
      let e : byte (rec t (file s x)) 0 ≡ 1 = rw (file-twin w x) at (anchors x.entry k) in
      length-rec t (file s x) (within t (file s x) w.whole (λ z. omega arith))

  no-entry : (x : State) → byte (rec t x.entry) 0 ≡ 2 → byte (rec t (file s x)) 0 ≢ 2
  no-entry x k = rw (file-twin w x) at (anchors-aimed t anchors x.entry k)

  pub dpr-twin : (u : ℕ) (name : Word) (code : ℕ) → Agree A B (dpr_plan A t u name code) (dpr_plan B s u name code)
  unfolding dpr_plan
  dpr-twin u name code =
      end-twin w u 1 name _ _ (λ d f k.
      rw (file-twin w f)
      (storing-twin _ _
      (ap (λ (x : ℕ). write_inhibited (end_of 1 name) f ∷ lacking (whole 2) code x ∷ []) (same_byte (w.each (file s f)) 3 (omega arith)))
      (more (recoded-lays w (file s f) (heading-size f k) (no-entry f k) code) none)))

  pub rewrite-twin : (u : ℕ) (text : List ℕ) (name : Word) → Agree A B (rewrite_plan A t u text name) (rewrite_plan B s u text name)
  unfolding rewrite_plan
  rewrite-twin u text name =
      end-twin w u 2 name _ _ (λ d f k.
      rw (file-twin w f, file-rec w (anchors-aimed t anchors) f k, frees-twin w)
      (storing-twin _ _ refl (rewriting-twin w (file s f) (heading-size f k) (no-entry f k) text)))
