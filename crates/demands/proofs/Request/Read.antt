-- What reading gives: a request as its function needs it. A reader is a few checks in number order, so a request comes out only where
-- none of them held, and each fact of it is the opposite of a check.
use mathlib.Core.Bool.{Bool, true, false, ◌&&◌, not, cond, true≢false}
use mathlib.Core.List.{List, [], ◌∷◌, ◌++◌, append-nil}
use mathlib.Core.Path.{◌≡◌, sym, refl, subst}
use Prim.Native.Nat.{ℕ, ◌+◌, ◌-◌, ◌≤◌, ◌<◌}
use native.Mathlib.Omega.{arith}
use lib.ListN.{length, get_or, take, drop, length-take, length-drop}
use lib.Dec.{eqb, leb, ltb}
use lib.Seq.{take_all, get_or-take, get_or-drop}
use borrow.Author.Tests.{ltb-true, leb-true, eq-eqb, ltb-false, not-false}
use Rattle.paper.specs.Name.{link_name, chain, well_formed, legal_base, base_name, lone_point}
use Rattle.paper.specs.Declaration.{Part, given, not_given, is_given, Parts, fits, fit_wrs, fit_cpy, fit_dup, wrs_lifetime, dpr_code}
use Rattle.paper.specs.Line.{Word, words, word, legal_line}
use Rattle.paper.specs.Octal.{part_of}
use Rattle.paper.specs.Check.{whole, Check, check, Verdict, passed, refused, verdict}
use Rattle.paper.specs.Request.{declared_at, octal_at, parts_at, Begin, old_from, is_take, is_take_within, illegal_but, Request, crd, wrs, rds, cpy, dup, chn, del, dst, dpr, lst, lst_base, lst_tree, lst_base_tree, rewrite, Read, request, unread, after, needed, read_as, counted, miscounted, malformed, illegal, unfit, each, between, misnamed, read_crd, read_wrs, read_rds, read_lst, read_cpy, read_dup, link_alone, read_chn, read_dpr, read_names, depth_of, depth_given, read_tree, read_rewrite, is_function, is_tree, is_rewrite, read_function, read, text_too_long, with_text, asked}
use Rattle.paper.specs.Walk.{last_name}
use Rattle.paper.specs.Effect.{begun}
use Rattle.laws.proofs.Tests.{and_left, and_right, and_parts, either}
use Rattle.laws.proofs.Lists.{Every, every-at, every-parts, every-both}
use Rattle.demands.proofs.Request.Formed.{Named, Within, lettered-at, fits-parts, taking-given, medium-long, may-medium-long}
use Rattle.demands.proofs.Request.Fair.{Idle, verdict-idle}
use Rattle.demands.proofs.Request.Begun.{old-named, new-named, Gives}

-- ---- what each function is told

pub record CrdRead (w : Word) (l c : Part) : Type 0 where
  pub name : Named w
  pub level : Within 0 3 l
  pub code : Within 0 7 c

pub record WrsRead (s : List ℕ) (n : ℕ) (l c : Part) (w : Word) : Type 0 where
  pub lifetime : (1 ≤ n) × (n ≤ 2)
  pub level : Within 0 3 l
  pub code : Within 0 7 c
  pub name : Named w
  pub text : length s ≤ 24000

pub record CpyRead (v w : Word) (n l c : Part) : Type 0 where
  pub old : Named v
  pub new : Named w
  pub lifetime : Within 1 2 n
  pub level : Within 0 3 l
  pub code : Within 0 7 c

pub record DupRead (v w : Word) (to : Begin) (c : Part) : Type 0 where
  pub old : Named v
  pub new : Named w
  pub gives : Gives to w
  pub code : Within 0 7 c

pub record ChnRead (v w : Word) : Type 0 where
  pub old : Named v
  pub link : link_name (last_name w.names) ≡ true
  pub base : length (chain v.names) ≡ 1 → legal_base (last_name w.names) ≡ true

pub record DelRead (ws : List Word) : Type 0 where
  pub names : Every Named ws
  pub some : 1 ≤ length ws
  pub few : length ws ≤ 8

pub record DprRead (w : Word) (c : ℕ) : Type 0 where
  pub name : Named w
  pub code : c ≤ 7

-- "the digit's depth, 1 to 8"
abbrev pub Depth : ℕ → Type 0
Depth d = (1 ≤ d) × (d ≤ 8)

pub record TreeRead (w : Word) (d : ℕ) : Type 0 where
  pub name : Named w
  pub depth : Depth d

pub record RewriteRead (s : List ℕ) (w : Word) : Type 0 where
  pub name : Named w
  pub text : length s ≤ 24000

abbrev pub Told : List ℕ → Request → Type 0
Told text (crd name level code) = CrdRead name level code
Told text (wrs lifetime level code name) = WrsRead text lifetime level code name
Told text (rds from name first count) = Named (begun from name)
Told text (cpy from old new lifetime level code) = CpyRead (begun from old) new lifetime level code
Told text (dup from old to new code) = DupRead (begun from old) (begun to new) to code
Told text (chn old link) = ChnRead old link
Told text (del names) = DelRead names
Told text (dst names) = DelRead names
Told text (dpr name code) = DprRead name code
Told text (lst from name) = Named (begun from name)
Told text lst_base = Unit {0}
Told text (lst_tree from name depth) = TreeRead (begun from name) depth
Told text (lst_base_tree depth) = Depth depth
Told text (rewrite name) = RewriteRead text name

-- ---- what the checks give

-- 6: so many arguments
counted-by : (least most : ℕ) (line : List ℕ) → Idle (miscounted least most line)
    → (least ≤ length (words line) - 1) × (length (words line) - 1 ≤ most)
unfolding counted
counted-by least most line e =
    let f = not-false (counted least most line) e in
    (leb-true _ _ (and_left (leb least (length (words line) - 1)) _ f), leb-true _ _ (and_right (leb least (length (words line) - 1)) _ f))

-- 7 and 8: each word from a up to b is a name
each-idle : (f : ℕ → Word → Check) (P : Word → Type 0) → ((p : ℕ) (w : Word) → Idle (f p w) → P w) → (p : ℕ) (ws : List Word)
    → Every Idle (each f p ws) → Every P ws
unfolding each
each-idle f P h p [] e = tt
each-idle f P h p (w ∷ ws) e = (h p w e.0, each-idle f P h (p + 1) ws e.1)

named_by : (w : Word) → well_formed w.names ≡ true → legal_base (base_name w.names) ≡ true → Named w
named_by w e f = record { formed = e; legal = f }

all_named_lem : (a b : ℕ) (line : List ℕ) → Every Idle (misnamed a b line) → Every Named (between a b line)
all_named_lem a b line h =
    let g = every-parts Idle (each malformed a (between a b line)) _ h in
    every-both _ _ Named (between a b line) named_by
    (each-idle malformed (λ w. well_formed w.names ≡ true) (λ p w e. not-false _ e) a (between a b line) g.0)
    (each-idle illegal (λ w. legal_base (base_name w.names) ≡ true) (λ p w e. not-false _ e) a (between a b line) g.1)

-- word k is among those
at-word : (a b k : ℕ) (line : List ℕ) → a ≤ k → k < b → k < length (words line) → Every Named (between a b line) → Named (word line k)
unfolding between word
at-word a b k line l m n h =
    let d : Word = record { start = length line; names = [] ∷ [] } in
    let i : a + (k - a) ≡ k = omega arith in
    let j : k - a < b - a = omega arith in
    let q : get_or (take (b - a) (drop a (words line))) (k - a) d ≡ get_or (words line) k d = rw (get_or-take, get_or-drop, i) in
    subst Named q (every-at Named (between a b line) (k - a) d (simp (length-take, length-drop) (omega arith)) h)

-- .. where the numbers are: tested by computing
name-at : (least a b k : ℕ) (line : List ℕ) → (leb 1 k && leb k least && (leb a k && ltb k b)) ≡ true → least ≤ length (words line) - 1
    → Every Named (between a b line) → Named (word line k)
name-at least a b k line e n h =
    let f = and_parts (leb 1 k && leb k least) _ e in
    let g = and_parts (leb 1 k) _ f.0 in
    let i = and_parts (leb a k) _ f.1 in
    let o = leb-true 1 k g.0 in
    let p = leb-true k least g.1 in
    at-word a b k line (leb-true a k i.0) (ltb-true k b i.1) (omega arith) h

-- 9: the declaration fits
fit_at : (test : Parts → Bool) (line : List ℕ) (p k : ℕ) → Idle (unfit p (fits test (declared_at line k))) → test (parts_at line k) ≡ true
fit_at test line p k e = fits-parts test (declared_at line k) (not-false _ e)

-- the link of CHN is its first and its last name
link-alone : (ns : List (List ℕ)) → link_alone ns ≡ true → (link_name (last_name ns) ≡ true) × (get_or ns 0 [] ≡ last_name ns)
unfolding last_name
link-alone [] e = absurd (true≢false (sym e))
link-alone (n ∷ []) e = (and_left (link_name n) _ e, refl)
link-alone (n ∷ m ∷ ns) e = absurd (true≢false (sym e))

-- 8: "also CHN's link for a base file"
based-by : (a b : Bool) → (a && not b) ≡ false → a ≡ true → b ≡ true
based-by true b e f = not-false b e
based-by false b e f = absurd (true≢false (sym f))

-- ---- the readers

-- a request that is told all it needs, once its text is not too long
abbrev Heard : List ℕ → Read → Type 0
Heard text (request r) = text_too_long r text ≡ false → Told text r
Heard text (unread f) = Unit {0}

heard-after : (text : List ℕ) (x : Read) (cs : List Check) → (Every Idle cs → Heard text x) → Heard text (after (verdict cs) x)
heard-after text x cs h = go (verdict cs) refl
  where
    go : (v : Verdict) → verdict cs ≡ v → Heard text (after v x)
    go passed e = h (verdict-idle cs e)
    go (refused g) e = tt

-- a request with a part that it needs
heard-needed : (text : List ℕ) (place : ℕ) (p : Part) (r : ℕ → Request) → ((n : ℕ) → p ≡ given n → Heard text (request (r n)))
    → Heard text (needed place p r)
heard-needed text place (given n) r h = h n refl
heard-needed text place not_given r h = tt

-- a digit that is given is from 1 to 8
digit-within : (w : List ℕ) → Within 1 8 (depth_of w)
unfolding depth_of
digit-within w = go (eqb (length w) 1 && (leb 49 (get_or w 0 0) && leb (get_or w 0 0) 56)) refl
  where
    go : (b : Bool) → (eqb (length w) 1 && (leb 49 (get_or w 0 0) && leb (get_or w 0 0) 56)) ≡ b → Within 1 8 (cond b (given (get_or w 0 0 - 48)) not_given)
    go true e =
        let r = and_right (eqb (length w) 1) _ e in
        let a = leb-true 49 (get_or w 0 0) (and_left (leb 49 (get_or w 0 0)) _ r) in
        let z = leb-true (get_or w 0 0) 56 (and_right (leb 49 (get_or w 0 0)) _ r) in
        (omega arith, omega arith)
    go false e = tt

depth-within : (ns : List (List ℕ)) → Within 1 8 (depth_given ns)
depth-within [] = tt
depth-within (w ∷ []) = digit-within w
depth-within (w ∷ v ∷ ws) = tt

depth-given : (ns : List (List ℕ)) (d : ℕ) → depth_given ns ≡ given d → Depth d
depth-given ns d e = rw e at (depth-within ns)

module _ (line text : List ℕ) where
  -- the usual reader: the count, the names from word a up to b, and the checks after them
  reader : (least most a b : ℕ) (cs : List Check) (x : Read)
      → (least ≤ length (words line) - 1 → length (words line) - 1 ≤ most → Every Named (between a b line) → Every Idle cs → Heard text x)
      → Heard text (after (verdict (miscounted least most line ∷ misnamed a b line ++ cs)) x)
  reader least most a b cs x h =
      heard-after text x _ (λ i.
      let n = counted-by least most line i.0 in
      let g = every-parts Idle (misnamed a b line) cs i.1 in
      h n.0 n.1 (all_named_lem a b line g.0) g.1)

  -- .. and nothing after them
  reader-names : (least most a b : ℕ) (x : Read)
      → (least ≤ length (words line) - 1 → length (words line) - 1 ≤ most → Every Named (between a b line) → Heard text x)
      → Heard text (after (verdict (miscounted least most line ∷ misnamed a b line)) x)
  reader-names least most a b x h = rw append-nil at (reader least most a b [] x (λ n m w _. h n m w))

  heard-crd : Heard text (read_crd line)
  unfolding read_crd
  heard-crd =
      reader 1 2 1 2 _ _ (λ n m w g _.
      record { name = name-at 1 1 2 1 line refl n w; level = (lettered-at line 2).level; code = (lettered-at line 2).code })

  heard-wrs : Heard text (read_wrs line)
  unfolding read_wrs
  heard-wrs =
      reader-names 2 2 2 3 _ (λ n m w.
      heard-needed text 1 (wrs_lifetime (declared_at line 1)) _ (λ life e short.
      let p = parts_at line 1 in
      let t = taking-given fit_wrs (λ p. p.lifetime) (declared_at line 1) life e in
      record {
        lifetime = medium-long p.lifetime life t.1 (and_right (not (is_given p.type)) _ t.0) (lettered-at line 1).lifetime;
        level = (lettered-at line 1).level;
        code = (lettered-at line 1).code;
        name = name-at 2 2 3 2 line refl n w;
        text = ltb-false _ _ short;
      }))

  -- the count, a name that may be a take, and the checks after it
  take-heard : (least most : ℕ) (late : List Check) (x : Read) → (Named (begun (old_from (word line 1)) (word line 1)) → Heard text x)
      → Heard text (after (verdict (miscounted least most line ∷ malformed 1 (word line 1) ∷ illegal_but is_take 1 (word line 1) ∷ late)) x)
  take-heard least most late x told =
      heard-after text x _ (λ h. told (old-named is_take 1 (word line 1) (λ e. e) h.1.0 h.1.1.0))

  take-read : (most : ℕ) (late : List Check) (r : Request) → (Named (begun (old_from (word line 1)) (word line 1)) → Told text r)
      → Heard text (read_as r (verdict (miscounted 1 most line ∷ malformed 1 (word line 1) ∷ illegal_but is_take 1 (word line 1) ∷ late)))
  take-read most late r told = take-heard 1 most late (request r) (λ n _. told n)

  heard-rds : Heard text (read_rds line)
  unfolding read_rds
  heard-rds =
      take-read 3 _ (rds (old_from (word line 1)) (word line 1) (part_of (octal_at line 2)) (part_of (octal_at line 3))) (λ n. n)

  heard-lst : Heard text (read_lst line)
  unfolding read_lst
  heard-lst =
      either (Heard text) (lone_point (word line 1).names) _ _ (heard-after text (request lst_base) _ (λ _ _. tt))
      (take-read 1 [] (lst (old_from (word line 1)) (word line 1)) (λ n. n))

  heard-tree : Heard text (read_tree line)
  unfolding read_tree
  heard-tree =
      either (Heard text) (lone_point (word line 1).names) _ _
      (heard-after text _ _ (λ _. heard-needed text 2 (depth_given (word line 2).names) _ (λ d e _. depth-given (word line 2).names d e)))
      (take-heard 2 2 [] _ (λ n.
      heard-needed text 2 (depth_given (word line 2).names) _ (λ d e _. record { name = n; depth = depth-given (word line 2).names d e })))

  heard-cpy : Heard text (read_cpy line)
  unfolding read_cpy
  heard-cpy =
      heard-after text _ _ (λ h _.
      let p = parts_at line 3 in
      let g = h.1.1.1.1.1.0 in
      record {
        old = old-named is_take 1 (word line 1) (λ e. e) h.1.0 h.1.1.1.0;
        new = record { formed = not-false _ h.1.1.0; legal = not-false _ h.1.1.1.1.0 };
        lifetime = may-medium-long p.lifetime (and_right (not (is_given p.type)) _ (fit_at fit_cpy line 3 3 g)) (lettered-at line 3).lifetime;
        level = (lettered-at line 3).level;
        code = (lettered-at line 3).code;
      })

  heard-dup : Heard text (read_dup line)
  unfolding read_dup
  heard-dup =
      heard-after text _ _ (λ h _.
      let w = new-named 2 (word line 2) h.1.1.0 h.1.1.1.1.0 in
      record {
        old = old-named is_take_within 1 (word line 1) (λ e. and_left (is_take (word line 1)) _ e) h.1.0 h.1.1.1.0;
        new = w.0;
        gives = w.1;
        code = (lettered-at line 3).code;
      })

  heard-chn : Heard text (read_chn line)
  unfolding read_chn
  heard-chn =
      heard-after text _ _ (λ h _.
      let l = link-alone (word line 2).names (not-false _ h.1.1.0) in
      record {
        old = record { formed = not-false _ h.1.0; legal = not-false _ h.1.1.1.0 };
        link = l.0;
        base = λ one.
            rw (← l.1)
            (based-by (eqb (length (chain (word line 1).names)) 1) (legal_base (get_or (word line 2).names 0 [])) h.1.1.1.1.0 (eq-eqb _ _ one));
      })

  names-read : (1 ≤ length (words line) - 1) → length (words line) - 1 ≤ 8 → Every Named (between 1 (length (words line)) line) → DelRead (drop 1 (words line))
  unfolding between
  names-read n m w =
      let l : length (drop 1 (words line)) ≡ length (words line) - 1 = length-drop 1 (words line) in
      record {
        names = subst (Every Named) (take_all (length (words line) - 1) (drop 1 (words line)) (omega arith)) w;
        some = rw l n;
        few = rw l m;
      }

  heard-names : (r : List Word → Request) → (DelRead (drop 1 (words line)) → Told text (r (drop 1 (words line)))) → Heard text (read_names r line)
  unfolding read_names
  heard-names r h = reader-names 1 8 1 (length (words line)) _ (λ n m w _. h (names-read n m w))

  heard-dpr : Heard text (read_dpr line)
  unfolding read_dpr
  heard-dpr =
      reader-names 2 2 1 2 _ (λ n m w.
      heard-needed text 2 (dpr_code (declared_at line 2)) _ (λ code e _.
      let t = taking-given fit_dup (λ p. p.code) (declared_at line 2) code e in
      let l : Within 0 7 (given code) = rw t.1 at (lettered-at line 2).code in
      record { name = name-at 2 1 2 1 line refl n w; code = l.1 }))

  heard-rewrite : Heard text (read_rewrite line)
  unfolding read_rewrite
  heard-rewrite =
      reader 2 2 2 3 _ _ (λ n m w g short.
      record { name = name-at 2 2 3 2 line refl n w; text = ltb-false _ _ short })

  heard-function : Heard text (read_function line)
  unfolding read_function
  heard-function =
      either (Heard text) (is_function 67 82 68 line) _ _ heard-crd
      (either (Heard text) (is_function 87 82 83 line) _ _ heard-wrs
      (either (Heard text) (is_function 82 68 83 line) _ _ heard-rds
      (either (Heard text) (is_function 67 80 89 line) _ _ heard-cpy
      (either (Heard text) (is_function 68 85 80 line) _ _ heard-dup
      (either (Heard text) (is_function 67 72 78 line) _ _ heard-chn
      (either (Heard text) (is_function 68 69 76 line) _ _ (heard-names del (λ h. h))
      (either (Heard text) (is_function 68 83 84 line) _ _ (heard-names dst (λ h. h))
      (either (Heard text) (is_function 68 80 82 line) _ _ heard-dpr
      (either (Heard text) (is_function 76 83 84 line) _ _ heard-lst
      (either (Heard text) (is_tree line) _ _ heard-tree
      (either (Heard text) (is_rewrite line) _ _ heard-rewrite
      tt)))))))))))

  heard : Heard text (read line)
  unfolding read
  heard = either (Heard text) (legal_line line) _ _ heard-function tt

-- a request with all that its function needs
abbrev pub Right : List ℕ → Read → Type 0
Right text (request r) = Told text r
Right text (unread f) = Unit {0}

pub read_right : (line text : List ℕ) → Right text (asked line text)
unfolding asked
read_right line text = go (read line) (heard line text)
  where
    go : (x : Read) → Heard text x → Right text (with_text text x)
    go (request r) h = ended (verdict (check (text_too_long r text) 10 (whole 0) ∷ [])) refl
      where
        ended : (v : Verdict) → verdict (check (text_too_long r text) 10 (whole 0) ∷ []) ≡ v → Right text (read_as r v)
        ended passed e = h (verdict-idle _ e).0
        ended (refused f) e = tt
    go (unread f) h = h
