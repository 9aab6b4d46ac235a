-- What a line says: a request each chain of which is an argument of the line, or a fair refusal. A reader is a few checks in number order,
-- each of one argument that is a chain or none by its function, and its names are those of that argument.
use mathlib.Core.Bool.{Bool, true, false, cond}
use mathlib.Core.List.{List, [], ◌∷◌}
use mathlib.Core.Path.{◌≡◌, refl, sym, ap, ◌∙◌, subst}
use Prim.Native.Nat.{ℕ, suc, ◌+◌, ◌-◌, ◌≤◌, ◌<◌}
use native.Mathlib.Omega.{arith}
use native.Mathlib.Nat.{add-zero}
use lib.ListN.{length, get_or, take, drop, length-take}
use lib.Seq.{get_or-take, get_or-drop}
use borrow.Author.Tests.{ne_eqb}
use Rattle.paper.specs.Name.{same, chain, lone_point}
use Rattle.paper.specs.Declaration.{Part, given, not_given, wrs_lifetime, dpr_code}
use Rattle.paper.specs.Octal.{part_of}
use Rattle.paper.specs.Line.{Word, words, word, legal_line}
use Rattle.paper.specs.Check.{at_link, whole, refusal_at, Check, check, Verdict, passed, refused, verdict}
use Rattle.paper.specs.Request.{Request, crd, wrs, rds, cpy, dup, chn, del, dst, dpr, lst, lst_base, lst_tree, lst_base_tree, rewrite, Read, request, unread, after, needed, miscounted, first_wrong, first_link, malformed, illegal, is_take, illegal_but, each, between, misnamed, old_from, declared_at, octal_at, read_crd, read_wrs, read_rds, read_lst, read_cpy, read_dup, read_chn, read_dpr, read_names, depth_given, read_tree, read_rewrite, is_function, is_tree, is_rewrite, read_function, read, text_too_long, with_text, asked}
use Rattle.paper.specs.Effect.{begun}
use Rattle.laws.proofs.Tests.{either}
use Rattle.laws.proofs.Lists.{Every, every_append}
use Rattle.demands.proofs.Request.Formed.{chain-some}
use Rattle.demands.proofs.Request.Fair.{Fair, FairCheck, Chained, verdict-fair, fair-line, fair-linked, fair-wrong, fair-whole}
use Rattle.demands.proofs.Request.Begun.{old-long, new-long}
use Rattle.demands.proofs.Request.Chains.{names_at, IsChain, IsNone, names-by, word_some}

-- several names: the next one after m is argument m + 1
abbrev pub Chains : (ℕ → List (List ℕ)) → List Word → Type 0
Chains names ws = (m : ℕ) (w : Word) (rest : List Word) → drop m ws ≡ w ∷ rest → Chained names (m + 1) w

-- the names of a request are arguments, each as long as its chain
abbrev pub Spoken : (ℕ → List (List ℕ)) → Request → Type 0
Spoken names (crd name level code) = Chained names 1 name
Spoken names (wrs lifetime level code name) = Chained names 2 name
Spoken names (rds from name first count) = Chained names 1 (begun from name) × (names 2 ≡ [])
Spoken names (cpy from old new lifetime level code) = Chained names 1 (begun from old) × (Chained names 2 new × (names 3 ≡ []))
Spoken names (dup from old to new code) = Chained names 1 (begun from old) × Chained names 2 (begun to new)
Spoken names (chn old link) = Chained names 1 old × (names 2 ≡ [])
Spoken names (del ws) = Chains names ws
Spoken names (dst ws) = Chains names ws
Spoken names (dpr name code) = Chained names 1 name × (names 2 ≡ [])
Spoken names (lst from name) = Chained names 1 (begun from name)
Spoken names lst_base = Unit {0}
Spoken names (lst_tree from name depth) = Chained names 1 (begun from name)
Spoken names (lst_base_tree depth) = Unit {0}
Spoken names (rewrite name) = Chained names 2 name

abbrev pub Said : (ℕ → List (List ℕ)) → Read → Type 0
Said names (request r) = Spoken names r
Said names (unread f) = Fair names f

module _ (names : ℕ → List (List ℕ)) where
  said-after : (x : Read) (cs : List Check) → Every (FairCheck names) cs → Said names x → Said names (after (verdict cs) x)
  said-after x cs h s = go (verdict cs) refl
    where
      go : (v : Verdict) → verdict cs ≡ v → Said names (after v x)
      go passed e = s
      go (refused f) e = verdict-fair names cs f h e

  -- a request with a part that it needs, or 9
  said-needed : (a : ℕ) (p : Part) (r : ℕ → Request) → 1 ≤ a → names a ≡ [] → ((n : ℕ) → Spoken names (r n)) → Said names (needed a p r)
  said-needed a (given n) r l z h = h n
  said-needed a not_given r l z h = fair-whole names 9 a refl l z

  each-fair : (f : ℕ → Word → Check) (p : ℕ) (ws : List Word) (d : Word) → ((i : ℕ) → i < length ws → FairCheck names (f (p + i) (get_or ws i d)))
      → Every (FairCheck names) (each f p ws)
  unfolding each
  each-fair f p [] d h = tt
  each-fair f p (w ∷ ws) d h = (
    rw add-zero at (h 0 (omega arith)),
    each-fair f (p + 1) ws d (λ i l. let z : p + 1 + i ≡ p + suc i = omega arith in rw z (h (suc i) (omega arith))),
  )

module _ (line : List ℕ) where
  abbrev names : ℕ → List (List ℕ)
  names = names_at line

  -- ---- an argument that is a chain

  chained : (a : ℕ) → 1 ≤ a → IsChain line a → Chained names a (word line a)
  chained a l q = record { from = l; long = rw q }

  -- 7 and 8
  fair-malformed : (a : ℕ) → 1 ≤ a → IsChain line a → FairCheck names (malformed a (word line a))
  fair-malformed a l q = subst (λ ns. Fair names (refusal_at 7 (at_link a (first_wrong (first_link ns) ns)))) q (fair-wrong names a l)

  fair-illegal : (a : ℕ) → 1 ≤ a → IsChain line a → Fair names (refusal_at 8 (at_link a 1))
  fair-illegal a l q =
      let m = chain-some (word line a).names (word_some line a) in
      fair-linked names 8 a 1 refl l (rw q (omega arith))
      (rw q (sym (ne_eqb (length (chain (word line a).names)) 0 (λ (z : length (chain (word line a).names) ≡ 0). omega arith))))

  -- .. of each of some words
  fair-misnamed : (a b : ℕ) → 1 ≤ a → ((k : ℕ) → a ≤ k → k < b → IsChain line k) → Every (FairCheck names) (misnamed a b line)
  unfolding between word
  fair-misnamed a b l q =
      every_append (FairCheck names) (each malformed a (between a b line)) _
      (each-fair names malformed a (between a b line) d (λ i m. at malformed i m (fair-malformed (a + i) (omega arith) (within i m))))
      (each-fair names illegal a (between a b line) d (λ i m. at illegal i m (fair-illegal (a + i) (omega arith) (within i m))))
    where
      d : Word
      d = record { start = length line; names = [] ∷ [] }

      short : (i : ℕ) → i < length (between a b line) → i < b - a
      short i m = omega (arith, length-take (b - a) (drop a (words line)))

      within : (i : ℕ) → i < length (between a b line) → IsChain line (a + i)
      within i m = let s = short i m in q (a + i) (omega arith) (omega arith)

      at : (f : ℕ → Word → Check) (i : ℕ) → i < length (between a b line) → FairCheck names (f (a + i) (word line (a + i)))
          → FairCheck names (f (a + i) (get_or (between a b line) i d))
      at f i m h =
          let s = short i m in
          let e : get_or (take (b - a) (drop a (words line))) i d ≡ get_or (words line) (a + i) d = rw (get_or-take, get_or-drop) in
          rw e h

  -- ---- the readers

  six : (least most : ℕ) → FairCheck names (miscounted least most line)
  six least most = fair-line names 6 refl

  said-crd : is_function 67 82 68 line ≡ true → Said names (read_crd line)
  unfolding read_crd same
  said-crd e =
      let q : IsChain line 1 = names-by line (67 ∷ 82 ∷ 68 ∷ []) 1 e in
      let z : IsNone line 2 = names-by line (67 ∷ 82 ∷ 68 ∷ []) 2 e in
      said-after names _ _ (
        six 1 2,
        every_append (FairCheck names) (misnamed 1 2 line) _ (fair-misnamed 1 2 (omega arith) (λ k l m. let y : k ≡ 1 = omega arith in rw y q))
            (fair-whole names 9 2 refl (omega arith) z, tt),
      )
      (chained 1 (omega arith) q)

  said-wrs : is_function 87 82 83 line ≡ true → Said names (read_wrs line)
  unfolding read_wrs same
  said-wrs e =
      let q : IsChain line 2 = names-by line (87 ∷ 82 ∷ 83 ∷ []) 2 e in
      let z : IsNone line 1 = names-by line (87 ∷ 82 ∷ 83 ∷ []) 1 e in
      said-after names _ _ (six 2 2, fair-misnamed 2 3 (omega arith) (λ k l m. let y : k ≡ 2 = omega arith in rw y q))
      (said-needed names 1 (wrs_lifetime (declared_at line 1)) _ (omega arith) z (λ _. chained 2 (omega arith) q))

  -- a chain that may be a take
  taken : IsChain line 1 → Chained names 1 (begun (old_from (word line 1)) (word line 1))
  taken q = record { from = omega arith; long = rw q (old-long (word line 1)) }

  said-take : (least most : ℕ) (late : List Check) (x : Read) → IsChain line 1 → Every (FairCheck names) late → Said names x
      → Said names (after (verdict (miscounted least most line ∷ malformed 1 (word line 1) ∷ illegal_but is_take 1 (word line 1) ∷ late)) x)
  said-take least most late x q h =
      said-after names x _ (six least most, (fair-malformed 1 (omega arith) q, (fair-illegal 1 (omega arith) q, h)))

  said-rds : is_function 82 68 83 line ≡ true → Said names (read_rds line)
  unfolding read_rds same
  said-rds e =
      let q : IsChain line 1 = names-by line (82 ∷ 68 ∷ 83 ∷ []) 1 e in
      let y : IsNone line 2 = names-by line (82 ∷ 68 ∷ 83 ∷ []) 2 e in
      let z : IsNone line 3 = names-by line (82 ∷ 68 ∷ 83 ∷ []) 3 e in
      said-take 1 3 _ (request (rds (old_from (word line 1)) (word line 1) (part_of (octal_at line 2)) (part_of (octal_at line 3)))) q
      (fair-whole names 27 2 refl (omega arith) y, (fair-whole names 27 3 refl (omega arith) z, tt)) (taken q, y)

  said-lst : is_function 76 83 84 line ≡ true → Said names (read_lst line)
  unfolding read_lst same
  said-lst e =
      let q : IsChain line 1 = names-by line (76 ∷ 83 ∷ 84 ∷ []) 1 e in
      either (Said names) (lone_point (word line 1).names) _ _ (said-after names (request lst_base) _ (six 1 1, tt) tt)
      (said-take 1 1 [] (request (lst (old_from (word line 1)) (word line 1))) q tt (taken q))

  said-tree : is_tree line ≡ true → Said names (read_tree line)
  unfolding read_tree same
  said-tree e =
      let q : IsChain line 1 = names-by line (76 ∷ 83 ∷ 84 ∷ 42 ∷ []) 1 e in
      let z : IsNone line 2 = names-by line (76 ∷ 83 ∷ 84 ∷ 42 ∷ []) 2 e in
      either (Said names) (lone_point (word line 1).names) _ _
      (said-after names _ _ (six 2 2, tt) (said-needed names 2 (depth_given (word line 2).names) _ (omega arith) z (λ _. tt)))
      (said-take 2 2 [] _ q tt (said-needed names 2 (depth_given (word line 2).names) _ (omega arith) z (λ _. taken q)))

  -- the refusals of CPY and DUP: the count, 7 and 8 of both names, 9
  fair-two : IsChain line 1 → IsChain line 2 → IsNone line 3
      → FairCheck names (miscounted 2 3 line) × (FairCheck names (malformed 1 (word line 1)) × (FairCheck names (malformed 2 (word line 2))
      × (Fair names (refusal_at 8 (at_link 1 1)) × (Fair names (refusal_at 8 (at_link 2 1)) × (Fair names (refusal_at 9 (whole 3)) × Unit {0})))))
  fair-two q r z = (
    six 2 3,
    (
      fair-malformed 1 (omega arith) q,
      (
        fair-malformed 2 (omega arith) r,
        (fair-illegal 1 (omega arith) q, (fair-illegal 2 (omega arith) r, (fair-whole names 9 3 refl (omega arith) z, tt))),
      ),
    ),
  )

  said-cpy : is_function 67 80 89 line ≡ true → Said names (read_cpy line)
  unfolding read_cpy same
  said-cpy e =
      let q : IsChain line 1 = names-by line (67 ∷ 80 ∷ 89 ∷ []) 1 e in
      let r : IsChain line 2 = names-by line (67 ∷ 80 ∷ 89 ∷ []) 2 e in
      let z : IsNone line 3 = names-by line (67 ∷ 80 ∷ 89 ∷ []) 3 e in
      said-after names _ _ (fair-two q r z) (taken q, (chained 2 (omega arith) r, z))

  said-dup : is_function 68 85 80 line ≡ true → Said names (read_dup line)
  unfolding read_dup same
  said-dup e =
      let q : IsChain line 1 = names-by line (68 ∷ 85 ∷ 80 ∷ []) 1 e in
      let r : IsChain line 2 = names-by line (68 ∷ 85 ∷ 80 ∷ []) 2 e in
      let z : IsNone line 3 = names-by line (68 ∷ 85 ∷ 80 ∷ []) 3 e in
      said-after names _ _ (fair-two q r z) (taken q, record { from = omega arith; long = rw r (new-long (word line 2)) })

  said-chn : is_function 67 72 78 line ≡ true → Said names (read_chn line)
  unfolding read_chn same
  said-chn e =
      let q : IsChain line 1 = names-by line (67 ∷ 72 ∷ 78 ∷ []) 1 e in
      let z : IsNone line 2 = names-by line (67 ∷ 72 ∷ 78 ∷ []) 2 e in
      said-after names _ _ (
        six 2 2,
        (
          fair-malformed 1 (omega arith) q,
          (
            fair-whole names 7 2 refl (omega arith) z,
            (fair-illegal 1 (omega arith) q, (fair-whole names 8 2 refl (omega arith) z, tt)),
          ),
        ),
      )
      (chained 1 (omega arith) q, z)

  said-dpr : is_function 68 80 82 line ≡ true → Said names (read_dpr line)
  unfolding read_dpr same
  said-dpr e =
      let q : IsChain line 1 = names-by line (68 ∷ 80 ∷ 82 ∷ []) 1 e in
      let z : IsNone line 2 = names-by line (68 ∷ 80 ∷ 82 ∷ []) 2 e in
      said-after names _ _ (six 2 2, fair-misnamed 1 2 (omega arith) (λ k l m. let y : k ≡ 1 = omega arith in rw y q))
      (said-needed names 2 (dpr_code (declared_at line 2)) _ (omega arith) z (λ _. (chained 1 (omega arith) q, z)))

  -- each word after the first
  next-chained : ((k : ℕ) → IsChain line k) → Chains names (drop 1 (words line))
  unfolding word
  next-chained q m w rest e =
      let d : Word = record { start = length line; names = [] ∷ [] } in
      let i : 1 + (m + 0) ≡ m + 1 = omega arith in
      let f : word line (m + 1) ≡ w = sym (get_or-drop m (drop 1 (words line)) 0 d ∙ get_or-drop 1 (words line) (m + 0) d ∙ rw i) ∙ ap (λ l. get_or l 0 d) e in
      subst (Chained names (m + 1)) f (chained (m + 1) (omega arith) (q (m + 1)))

  said-names : (r : List Word → Request) → ((k : ℕ) → IsChain line k) → Spoken names (r (drop 1 (words line))) → Said names (read_names r line)
  unfolding read_names
  said-names r q = said-after names _ _ (six 1 8, fair-misnamed 1 (length (words line)) (omega arith) (λ k _ _. q k))

  said-del : is_function 68 69 76 line ≡ true → Said names (read_names del line)
  unfolding same
  said-del e = let q : (k : ℕ) → IsChain line k = λ k. names-by line (68 ∷ 69 ∷ 76 ∷ []) k e in said-names del q (next-chained q)

  said-dst : is_function 68 83 84 line ≡ true → Said names (read_names dst line)
  unfolding same
  said-dst e = let q : (k : ℕ) → IsChain line k = λ k. names-by line (68 ∷ 83 ∷ 84 ∷ []) k e in said-names dst q (next-chained q)

  said-rewrite : is_rewrite line ≡ true → Said names (read_rewrite line)
  unfolding read_rewrite same
  said-rewrite e =
      let q : IsChain line 2 = names-by line (87 ∷ 82 ∷ 83 ∷ 42 ∷ []) 2 e in
      let z : IsNone line 1 = names-by line (87 ∷ 82 ∷ 83 ∷ 42 ∷ []) 1 e in
      said-after names _ _ (
        six 2 2,
        every_append (FairCheck names) (misnamed 2 3 line) _ (fair-misnamed 2 3 (omega arith) (λ k l m. let y : k ≡ 2 = omega arith in rw y q))
            (fair-whole names 9 1 refl (omega arith) z, tt),
      )
      (chained 2 (omega arith) q)

  -- ---- the line

  by : (b : Bool) (x y : Read) → (b ≡ true → Said names x) → Said names y → Said names (cond b x y)
  by true x y f s = f refl
  by false x y f s = s

  said-function : Said names (read_function line)
  unfolding read_function
  said-function =
      by (is_function 67 82 68 line) _ _ said-crd
      (by (is_function 87 82 83 line) _ _ said-wrs
      (by (is_function 82 68 83 line) _ _ said-rds
      (by (is_function 67 80 89 line) _ _ said-cpy
      (by (is_function 68 85 80 line) _ _ said-dup
      (by (is_function 67 72 78 line) _ _ said-chn
      (by (is_function 68 69 76 line) _ _ said-del
      (by (is_function 68 83 84 line) _ _ said-dst
      (by (is_function 68 80 82 line) _ _ said-dpr
      (by (is_function 76 83 84 line) _ _ said-lst
      (by (is_tree line) _ _ said-tree
      (by (is_rewrite line) _ _ said-rewrite
      (fair-line names 5 refl))))))))))))

  said_read : Said names (read line)
  unfolding read
  said_read = either (Said names) (legal_line line) _ _ said-function (fair-line names 4 refl)

  -- whatever the text
  pub said : (text : List ℕ) → Said names (asked line text)
  unfolding asked
  said text = go (read line) said_read
    where
      go : (x : Read) → Said names x → Said names (with_text text x)
      go (request r) s = said-after names (request r) (check (text_too_long r text) 10 (whole 0) ∷ []) (fair-line names 10 refl, tt) s
      go (unread f) s = s
