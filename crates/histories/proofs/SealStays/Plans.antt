-- Every request's plan is the same on two such tables, where the heading inhibits reading; or it reads the sealed text and is refused 13 on
-- both, before anything of the text is asked.
use mathlib.Core.Bool.{true}
use mathlib.Core.List.{List, [], ◌∷◌, ◌++◌}
use mathlib.Core.Logic.{◌≢◌, by_cases}
use mathlib.Core.Path.{◌≡◌, refl, ap}
use Prim.Native.Nat.{ℕ, ◌≤◌, ◌<◌}
use native.Mathlib.Omega.{arith}
use native.Mathlib.Decide.{ℕ_discrete}
use lib.ListN.{length}
use Rattle.paper.specs.Scan.{Found, at, nowhere, all_below}
use Rattle.paper.specs.Record.{byte, level, heading_code, lifetime, entry_code, names, rewritten, blank}
use Rattle.paper.specs.Layout.{boxed}
use Rattle.paper.specs.Table.{rooms, rec, room}
use Rattle.paper.specs.Declaration.{Part, or_else}
use Rattle.paper.specs.Line.{Word}
use Rattle.paper.specs.Check.{Place, Refusal, refusal_at, Check, verdict, refused}
use Rattle.paper.specs.Request.{Begin, own, take_of, give_to}
use Rattle.paper.specs.Code.{joined, no_read}
use Rattle.paper.specs.Sound.{implies}
use Rattle.paper.specs.Block.{blocks_of, file_text}
use Rattle.paper.specs.Walk.{State, start, applies, file, Walked, reached, stopped, to_directory, to_last, last_name, last_from, end_from, ended}
use Rattle.paper.specs.Store.{Store, puts, clear, clears, run}
use Rattle.paper.specs.Effect.{Planned, onward, inward, chain_of, end_of, to_holder, to_end, Making, borne, placing, displacing, read_inhibited, link_taken, making, filing, linking, new_file, with_counts, crd_plan, wrs_plan, cpy_plan, dup_plan, chn_plan, dpr_plan, del_plan, freed, destroying, dst_plan, rds_plan, lst_plan, lst_base_plan, lst_tree_plan, lst_base_tree_plan, emptying, laying, rewriting, rewrite_plan}
use Rattle.laws.proofs.Tests.{implies-use}
use Rattle.laws.proofs.Scans.{all_true}
use Rattle.laws.proofs.Lists.{Every, every_append, join-cong, every-each}
use Rattle.laws.proofs.Fields.{length-heading, length-entry}
use Rattle.laws.proofs.Entries.{found-stands}
use Rattle.laws.proofs.Rewritten.{length-rewritten}
use Rattle.laws.proofs.Lay.{length-rec, length-blank, within}
use Rattle.demands.proofs.Sound.Clauses.{Sound, entry-code}
use Rattle.demands.proofs.Request.Several.{Several, deletion, destruction, plan_of}
use Rattle.demands.proofs.Request.Ended.{Refused, checked}
use Rattle.demands.proofs.Request.Walked.{Reached, walk-reached}
use Rattle.histories.proofs.Calls.Anywhere.{Fits, lays-fit, file-fits}
use Rattle.histories.proofs.Calls.Requests.{freed-clears}
use Rattle.histories.proofs.SealStays.Veils.{Veil, rooms-veil, named-veil, rec-veil, directory-veil, find-veil, full-veil, names-veil, peopled-veil, frees-veil, text-room-veil, fills-cong, run-veil, counts-veil, clears-fit}
use Rattle.histories.proofs.SealStays.Walks.{freed-veil, to-directory-veil, to-last-veil, losing-veil, settled-veil, file-text-veil, directory-lines-veil, base-lines-veil, directory-tree-veil, base-tree-veil}

-- one plan, or refused alike
pub data Same (x y : Planned) : Type 0 where
  one : y ≡ x → Same x y
  neither : (f : Refusal) → Refused x f → Refused y f → Same x y

-- a code that inhibits reading joined with another still does: all pairs of codes, computed
joins : all_below (λ a. all_below (λ b. implies (no_read a) (no_read (joined a b))) 8) 8 ≡ true
unfolding all_below
joins = refl

pub joined-read : (a b : ℕ) → a ≤ 7 → b ≤ 7 → no_read a ≡ true → no_read (joined a b) ≡ true
joined-read a b l m =
    implies-use (no_read a) _ (all_true (λ b. implies (no_read a) (no_read (joined a b))) 8 b (omega arith)
    (all_true (λ a. all_below (λ b. implies (no_read a) (no_read (joined a b))) 8) 8 a (omega arith) joins))

-- 13: "read inhibited"
abbrev no-reading : Place → Refusal
no-reading = refusal_at 13

module _ (h : ℕ) (t s : List ℕ) (v : Veil h t s) (c : Sound t) (seal : no_read (heading_code (rec t h)) ≡ true) where
  -- ---- walks

  holder-same : (u place : ℕ) (w : Word) (f g : State → Planned)
      → ((d : State) → to_directory boxed t 1 (start u) (chain_of w) ≡ reached d → Same (f d) (g d))
      → Same (to_holder boxed t u place w f) (to_holder boxed s u place w g)
  holder-same u place w f g r =
      rw (to-directory-veil h t s v 1 (start u) (chain_of w)) (go (to_directory boxed t 1 (start u) (chain_of w)) refl)
    where
      go : (x : Walked) → to_directory boxed t 1 (start u) (chain_of w) ≡ x → Same (onward place x f) (onward place x g)
      go (reached d) e = r d e
      go (stopped n link) e = one refl

  end_same : (u place : ℕ) (w : Word) (f g : State → State → Planned)
      → ((d e : State) → Reached t d (last_name (chain_of w)) e → Same (f d e) (g d e)) → Same (to_end boxed t u place w f) (to_end boxed s u place w g)
  unfolding ended
  end_same u place w f g r =
      rw (to-directory-veil h t s v 1 (start u) (chain_of w)) (go (to_directory boxed t 1 (start u) (chain_of w)))
    where
      last : (d : State) (x : Walked) → to_last boxed t d (chain_of w) ≡ x → Same (inward place (last_from d x) f) (inward place (last_from d x) g)
      last d (reached e) q = r d e (walk-reached 65535 t c d (chain_of w) e q)
      last d (stopped n link) q = one refl

      go : (x : Walked) → Same (inward place (end_from boxed t (chain_of w) x) f) (inward place (end_from boxed s (chain_of w) x) g)
      go (reached d) = rw (to-last-veil h t s v d (chain_of w)) (last d (to_last boxed t d (chain_of w)) refl)
      go (stopped n link) = one refl

  -- what a walk to a file ends at is the same
  file-same : (e : State) → file s e ≡ file t e
  file-same e = named-veil h t s v e.entry

  heading-same : (d e : State) (n : List ℕ) → Reached t d n e → rec s (file t e) ≡ rec t (file t e)
  heading-same d e n r = rec-veil h t s v (file t e) (λ (z : byte (rec t (file t e)) 0 ≡ 3). omega (arith, r.heading))

  entry-same : (d e : State) (n : List ℕ) → Reached t d n e → rec s e.entry ≡ rec t e.entry
  entry-same d e n r = rec-veil h t s v e.entry (λ (z : byte (rec t e.entry) 0 ≡ 3). omega (arith, r.looked.stands.kind))

  -- the sealed file is read-inhibited by every path
  sealed : (d e : State) (n : List ℕ) → Reached t d n e → file t e ≡ h → no_read e.code ≡ true
  unfolding applies
  sealed d e n r q =
      rw r.looked.code
      (joined-read (heading_code (rec t (file t e))) (entry_code (rec t e.entry)) r.fields.code (entry-code _ r.own) (rw q seal))

  -- ---- a new entry

  room-same : (m : ℕ) → room s m ≡ room t m
  room-same m = rw (frees-veil h t s v, rooms-veil h t s v)

  module _ (m : Making) (fits : Every Fits m.first) (size : length m.entry ≡ 32) where
    -- the stores up to the entry's, with the counts
    counted_same : (e : ℕ) → with_counts s (m.first ++ puts e m.entry ∷ []) ≡ with_counts t (m.first ++ puts e m.entry ∷ [])
    counted_same e = rw (counts-veil h t s c.whole v (m.first ++ puts e m.entry ∷ []) (every_append Fits m.first _ fits (size, tt)))

    kind_at : (e : ℕ) → borne boxed t m ≡ at e → (e < rooms t) × (byte (rec t e) 0 ≡ 2)
    kind_at e q = let f = found-stands t m.directory.holder m.name e q in (f.0, f.1.kind)

    displaced-same : displacing s (borne boxed t m) m.entry ≡ displacing t (borne boxed t m) m.entry
    displaced-same = go (borne boxed t m) refl
      where
        go : (x : Found) → borne boxed t m ≡ x → displacing s x m.entry ≡ displacing t x m.entry
        go (at e) q = let k = kind_at e q in losing-veil h t s v c e m.entry k.0 k.1 size
        go nowhere q = refl

    placing-same : placing s m (borne boxed t m) ≡ placing t m (borne boxed t m)
    placing-same = go (borne boxed t m) refl
      where
        go : (x : Found) → borne boxed t m ≡ x → placing s m x ≡ placing t m x
        go (at e) q = let k = kind_at e q in rw (settled-veil h t s v c e m.entry k.0 k.1 size, counted_same e)
        go nowhere q = rw (room-same (length m.first), counted_same (room t (length m.first)))

    making-same : (a b e : List Check) → making boxed s m a b e ≡ making boxed t m a b e
    unfolding making
    making-same a b e =
        rw (find-veil h t s v m.directory.holder m.name, displaced-same, placing-same, full-veil h t s v m.directory.holder, frees-veil h t s v)

  file-made : (head body : List ℕ) → new_file s head body ≡ new_file t head body
  unfolding new_file
  file-made head body = rw (frees-veil h t s v, rooms-veil h t s v)

  -- a new file and its entry
  filing-same : (place : ℕ) (w : Word) (d : State) (code : ℕ) (head body : List ℕ) (a b e : List Check) → length head ≡ 32
      → making boxed s (filing boxed s place w d code head body) a b e ≡ making boxed t (filing boxed t place w d code head body) a b e
  filing-same place w d code head body a b e n =
      rw (file-made head body, room-same 0)
      (making-same (filing boxed t place w d code head body) (file-fits t head body n)
      (length-entry code d.holder.heading (room t 0) d.holder.user (last_name (chain_of w))) a b e)

  -- ---- each function

  pub crd-same : (u : ℕ) (name : Word) (lev code : Part)
      → Same (crd_plan boxed t u name lev code) (crd_plan boxed s u name lev code)
  unfolding crd_plan
  crd-same u name lev code = holder-same u 1 name _ _ (λ d _. one (filing-same 1 name d (or_else code 0) _ [] [] [] []
      (length-heading 0 (or_else lev 0) (or_else code 0) 1 0)))

  pub wrs-same : (u : ℕ) (body : List ℕ) (life : ℕ) (lev code : Part) (name : Word)
      → Same (wrs_plan boxed t u body life lev code name) (wrs_plan boxed s u body life lev code name)
  unfolding wrs_plan
  wrs-same u body life lev code name = holder-same u 2 name _ _ (λ d _. one (filing-same 2 name d (or_else code 0) _ body [] [] []
      (length-heading 1 (or_else lev 0) (or_else code 0) life (length body))))

  -- a give's 16
  taken-same : (to : Begin) (m : Making) → link_taken boxed s to m ≡ link_taken boxed t to m
  taken-same own m = refl
  taken-same (take_of n) m = refl
  taken-same (give_to n) m = rw (find-veil h t s v m.directory.holder m.name)

  pub dup-same : (a u : ℕ) (to : Begin) (old new : Word) (code : Part)
      → Same (dup_plan boxed t a u to old new code) (dup_plan boxed s a u to old new code)
  unfolding dup_plan
  dup-same a u to old new code =
      end_same a 1 old _ _ (λ o f r. holder-same u 2 new _ _ (λ d _.
      one (rw (entry-same o f _ r, taken-same to (linking boxed t f d new code))
      (making-same _ tt (length-entry _ d.holder.heading (file t f) d.holder.user (last_name (chain_of new))) [] _ []))))

  pub chn-same : (u : ℕ) (old link : Word) → Same (chn_plan boxed t u old link) (chn_plan boxed s u old link)
  unfolding chn_plan
  chn-same u old link =
      end_same u 1 old _ _ (λ d f r. one (rw (find-veil h t s v d.holder (last_name link.names), entry-same d f _ r)))

  pub dpr-same : (u : ℕ) (name : Word) (code : ℕ) → Same (dpr_plan boxed t u name code) (dpr_plan boxed s u name code)
  unfolding dpr_plan
  dpr-same u name code = end_same u 1 name _ _ (λ d f r. one (rw (file-same f, heading-same d f _ r)))

  pub del-same : (u place : ℕ) (name : Word) → Same (del_plan boxed t u place name) (del_plan boxed s u place name)
  unfolding del_plan
  del-same u place name =
      end_same u place name _ _ (λ d f r.
      let k = r.looked.stands.kind in
      let l = r.looked.within in
      one (rw (
        losing-veil h t s v c f.entry blank l k length-blank,
        settled-veil h t s v c f.entry blank l k length-blank,
        counts-veil h t s c.whole v (clear f.entry ∷ []) (length-blank, tt),
      )))

  pub dst_same : (u place : ℕ) (name : Word) → Same (dst_plan boxed t u place name) (dst_plan boxed s u place name)
  unfolding dst_plan
  dst_same u place name =
      end_same u place name _ _ (λ d f r.
      let g : ℕ = file t f in
      one (rw (
        file-same f,
        directory-veil h t s v g,
        peopled-veil h t s v g,
        destroying-same g r.heading,
        counts-veil h t s c.whole v (destroying t g) (destroying-fit g r.heading),
      )))
    where
      entries-same : (g : ℕ) → clears (λ i. names g (rec s i)) (rooms s) ≡ clears (λ i. names g (rec t i)) (rooms t)
      entries-same g =
          fills-cong (λ i. names g (rec s i)) (λ i. names g (rec t i)) (λ _. blank) (λ _. blank) (rooms s) (rooms t) (rooms-veil h t s v)
          (names-veil h t s v g) (λ _ _. refl)

      destroying-same : (g : ℕ) → byte (rec t g) 0 ≡ 1 → destroying s g ≡ destroying t g
      destroying-same g k = unfold destroying in rw (freed-veil h t s v g k, entries-same g)

      destroying-fit : (g : ℕ) → byte (rec t g) 0 ≡ 1 → Every Fits (destroying t g)
      destroying-fit g k =
          unfold destroying in
          every_append Fits (freed t g) (clears (λ i. names g (rec t i)) (rooms t)) (lays-fit _ (rooms t) (freed t g) (freed-clears t c g k))
          (clears-fit (λ i. names g (rec t i)) (rooms t))

  -- one name of either
  pub named-same : (b : Several) (u place : ℕ) (name : Word) → Same (plan_of b t u place name) (plan_of b s u place name)
  named-same deletion = del-same
  named-same destruction = dst_same

  pub lst-same : (u : ℕ) (reply : List ℕ) (name : Word) → Same (lst_plan boxed t u reply name) (lst_plan boxed s u reply name)
  unfolding lst_plan
  lst-same u reply name =
      end_same u 1 name _ _ (λ d f r. one (rw (file-same f, directory-veil h t s v (file t f), directory-lines-veil h t s v (file t f))))

  pub lst-base-same : (u : ℕ) (reply : List ℕ) → Same (lst_base_plan boxed t u reply) (lst_base_plan boxed s u reply)
  unfolding lst_base_plan
  lst-base-same u reply = one (rw (base-lines-veil h t s v u))

  pub lst-tree-same : (u : ℕ) (reply : List ℕ) (name : Word) (depth : ℕ)
      → Same (lst_tree_plan boxed t u reply name depth) (lst_tree_plan boxed s u reply name depth)
  unfolding lst_tree_plan
  lst-tree-same u reply name depth =
      end_same u 1 name _ _ (λ d f r. one (rw (file-same f, directory-veil h t s v (file t f), directory-tree-veil h t s v depth (file t f))))

  pub lst-base-tree-same : (u : ℕ) (reply : List ℕ) (depth : ℕ) → Same (lst_base_tree_plan boxed t u reply depth) (lst_base_tree_plan boxed s u reply depth)
  unfolding lst_base_tree_plan
  lst-base-tree-same u reply depth = one (rw (base-tree-veil h t s v depth u))

  -- ---- what reads the text: another file's is the same; the sealed file's is refused first

  thirteen : (p : Place) (f : State) (rest : List Check) → no_read f.code ≡ true → verdict (read_inhibited p f ∷ rest) ≡ refused (no-reading p)
  unfolding verdict
  thirteen p f rest e = rw e

  pub rds-same : (u : ℕ) (reply : List ℕ) (name : Word) (first count : Part)
      → Same (rds_plan boxed t u reply name first count) (rds_plan boxed s u reply name first count)
  unfolding rds_plan
  rds-same u reply name first count =
      end_same u 1 name _ _ (λ d f r. by_cases (ℕ_discrete (file t f) h)
      (λ (q : file t f ≡ h).
      let z = sealed d f _ r q in
      neither (no-reading (end_of 1 name)) (checked _ refl (thirteen _ f _ z)) (checked _ refl (thirteen _ f _ z)))
      (λ (q : file t f ≢ h). one (rw (file-same f, heading-same d f _ r, file-text-veil h t s v c.whole (file t f) q r.heading))))

  -- a plan whose first check is that of reading
  refused-making : (m : Making) (p : Place) (f : State) (a b e : List Check) (x : List ℕ) → no_read f.code ≡ true
      → Refused (making boxed x m (read_inhibited p f ∷ a) b e) (no-reading p)
  unfolding making
  refused-making m p f a b e x z = checked _ refl (thirteen p f _ z)

  pub cpy-same : (a u : ℕ) (old new : Word) (life lev code : Part)
      → Same (cpy_plan boxed t a u old new life lev code) (cpy_plan boxed s a u old new life lev code)
  unfolding cpy_plan
  cpy-same a u old new life lev code =
      end_same a 1 old _ _ (λ o f r. holder-same u 2 new _ _ (λ d _. by_cases (ℕ_discrete (file t f) h)
      (λ (q : file t f ≡ h).
      let z = sealed o f _ r q in
      neither (no-reading (end_of 1 old)) (refused-making _ _ f [] _ _ t z) (refused-making _ _ f [] _ _ s z))
      (λ (q : file t f ≢ h).
      one (rw (file-same f, heading-same o f _ r, file-text-veil h t s v c.whole (file t f) q r.heading)
      (let source : List ℕ = rec t (file t f) in
      let body : List ℕ = file_text t (file t f) in
      filing-same 2 new d (or_else code 0) _ body _ _ _
      (length-heading 1 (or_else lev (level source)) (or_else code 0) (or_else life (lifetime source)) (length body)))))))

  -- a file emptied: the same records cleared, whatever they hold
  emptying-same : (g : ℕ) → byte (rec t g) 0 ≡ 1 → rec s g ≡ rec t g → emptying s g ≡ emptying t g
  unfolding emptying
  emptying-same g k e =
      rw e (ap (λ (x : List Store). puts g (rewritten (rec t g) 1 0) ∷ x) (join-cong _ _ (blocks_of t g) (λ p _. rw (text-room-veil h t s v g p))))

  emptied-veil : (g : ℕ) → byte (rec t g) 0 ≡ 1 → Veil h (run t (emptying t g)) (run s (emptying t g))
  emptied-veil g k = run-veil h (emptying t g) t s c.whole fits v
    where
      fits : Every Fits (emptying t g)
      fits =
          unfold emptying in (
            length-rewritten (rec t g) 1 0 (length-rec t g (within t g c.whole (omega arith))),
            every-each Fits _ (blocks_of t g) (λ p b. length-blank),
          )

  laying-same : (g : ℕ) → byte (rec t g) 0 ≡ 1 → (body : List ℕ) → laying (run s (emptying t g)) g body ≡ laying (run t (emptying t g)) g body
  unfolding laying
  laying-same g k body = rw (frees-veil h _ _ (emptied-veil g k), rooms-veil h _ _ (emptied-veil g k))

  -- a rewrite: the same records cleared and laid
  pub rewrite-same : (u : ℕ) (body : List ℕ) (name : Word) → Same (rewrite_plan boxed t u body name) (rewrite_plan boxed s u body name)
  unfolding rewrite_plan
  rewrite-same u body name =
      end_same u 2 name _ _ (λ d f r.
      one (rw (file-same f, rewriting-same (file t f) r.heading (heading-same d f _ r), heading-same d f _ r, frees-veil h t s v)))
    where
      rewriting-same : (g : ℕ) → byte (rec t g) 0 ≡ 1 → rec s g ≡ rec t g → rewriting s g body ≡ rewriting t g body
      rewriting-same g k e = unfold rewriting in rw (emptying-same g k e, e, laying-same g k body)
