-- What the reader refuses is the whole line or one of its first eight arguments: each check names its argument, and a DEL's names are
-- tried only once they are counted. Its link is one of that argument's chain, which has few in a line that is not too long.
use mathlib.Core.Bool.{Bool, true, false, not, cond}
use mathlib.Core.List.{List, [], ◌∷◌, ◌++◌}
use mathlib.Core.Path.{◌≡◌, refl, subst}
use Prim.Native.Nat.{ℕ, ◌+◌, ◌-◌, ◌≤◌}
use native.Mathlib.Omega.{arith}
use lib.ListN.{length, take, drop, length-take}
use lib.Dec.{leb}
use borrow.Author.Tests.{leb-true, not-false}
use Rattle.paper.specs.Name.{all, chain, lone_point}
use Rattle.paper.specs.Line.{Word, words, word, in_line, legal_line}
use Rattle.paper.specs.Check.{whole, Refusal, refusal_at, Check, Verdict, passed, refused, verdict}
use Rattle.paper.specs.Declaration.{Part, wrs_lifetime, dpr_code}
use Rattle.paper.specs.Declaration as part
use Rattle.paper.specs.Request.{Request, del, dst, Read, request, unread, after, needed, read_as, counted, miscounted, malformed, illegal, each, between, misnamed, declared_at, read_crd, read_wrs, read_rds, read_lst, read_cpy, read_dup, read_chn, read_dpr, read_names, depth_given, read_tree, read_rewrite, is_function, is_tree, is_rewrite, read_function, read, asked}
use Rattle.laws.proofs.Tests.{and_left, and_right, either, clash}
use Rattle.laws.proofs.Lists.{Every, every_append}
use Rattle.demands.proofs.Request.Chains.{names_at}
use Rattle.demands.proofs.Request.Spoken.{Said, said}
use Rattle.demands.proofs.Answered.Links.{linked-fair}
use Rattle.words.specs.declared.begin.Begin.TheVariants.{Own}
use Rattle.words.proofs.Words.{word-names}
use Rattle.reader.specs.Asked as reader
use Rattle.reader.specs.Asked.{shown_read}
use Rattle.reader.specs.declared.request.Refusal as given
use Rattle.std.specs.Prelude.{Result, Ok, Err, MatchResult}
use Rattle.std.specs.Result.{IsErrAnd}
use Rattle.reader.specs.declared.request.Request as answered
use Rattle.answers.specs.Shown.{told}
use Rattle.answers.specs.declared.Refusal as code
use Rattle.elephant.specs.Entrance.{unread_by}
use Rattle.elephant.proofs.Ends.{handed}
use Rattle.elephant.proofs.Links.{chain-few}

abbrev NearCheck : Check → Type 0
NearCheck c = c.refusal.place.argument ≤ 8

abbrev NearVerdict : Verdict → Type 0
NearVerdict passed = Unit {0}
NearVerdict (refused f) = f.place.argument ≤ 8

abbrev Near : Read → Type 0
Near (request r) = Unit {0}
Near (unread f) = f.place.argument ≤ 8

verdict-near : (cs : List Check) → Every NearCheck cs → NearVerdict (verdict cs)
unfolding verdict
verdict-near [] h = tt
verdict-near (c ∷ cs) h = either NearVerdict c.when (refused c.refusal) (verdict cs) h.0 (verdict-near cs h.1)

read-near : (x : Read) (v : Verdict) → NearVerdict v → Near x → Near (after v x)
read-near x passed h n = n
read-near x (refused f) h n = h

near-then : (x : Read) (cs : List Check) → Every NearCheck cs → Near x → Near (after (verdict cs) x)
near-then x cs h n = read-near x (verdict cs) (verdict-near cs h) n

near-as : (r : Request) (cs : List Check) → Every NearCheck cs → Near (read_as r (verdict cs))
near-as r cs h = near-then (request r) cs h tt

near-needed : (argument : ℕ) (p : Part) (r : ℕ → Request) → argument ≤ 8 → Near (needed argument p r)
near-needed argument (part.given n) r l = tt
near-needed argument part.not_given r l = l

-- a check for each of some words
each-near : (f : ℕ → Word → Check) → ((p : ℕ) (w : Word) → (f p w).refusal.place.argument ≡ p) → (p : ℕ) (ws : List Word)
    → p + length ws ≤ 9
    → Every NearCheck (each f p ws)
unfolding each
each-near f h p [] l = tt
each-near f h p (w ∷ ws) l = (omega (arith, h p w), each-near f h (p + 1) ws (omega arith))

misnamed-near : (a b : ℕ) (line : List ℕ) → a + (b - a) ≤ 9 → Every NearCheck (misnamed a b line)
unfolding between
misnamed-near a b line l =
    let n : a + length (take (b - a) (drop a (words line))) ≤ 9 = simp (length-take) (omega arith) in
    every_append NearCheck (each malformed a (between a b line)) _
    (each-near malformed (λ p w. refl) a (between a b line) n) (each-near illegal (λ p w. refl) a (between a b line) n)

module _ (line : List ℕ) where
  -- the usual reader: the count, the names, and the checks after them
  near-names : (r : Request) (least most a b : ℕ) (cs : List Check) → a + (b - a) ≤ 9 → Every NearCheck cs
      → Near (read_as r (verdict (miscounted least most line ∷ misnamed a b line ++ cs)))
  near-names r least most a b cs l h = near-as r _ (omega arith, every_append NearCheck (misnamed a b line) cs (misnamed-near a b line l) h)

  -- the count and the names, and what is read after them
  near-after : (x : Read) (least most a b : ℕ) → a + (b - a) ≤ 9 → Near x
      → Near (after (verdict (miscounted least most line ∷ misnamed a b line)) x)
  near-after x least most a b l n = near-then x _ (omega arith, misnamed-near a b line l) n

  near-crd : Near (read_crd line)
  unfolding read_crd
  near-crd = near-names _ 1 2 1 2 _ (omega arith) (omega arith, tt)

  near-wrs : Near (read_wrs line)
  unfolding read_wrs
  near-wrs = near-after _ 2 2 2 3 (omega arith) (near-needed 1 (wrs_lifetime (declared_at line 1)) _ (omega arith))

  near-rewrite : Near (read_rewrite line)
  unfolding read_rewrite
  near-rewrite = near-names _ 2 2 2 3 _ (omega arith) (omega arith, tt)

  near-rds : Near (read_rds line)
  unfolding read_rds
  near-rds = near-as _ _ (omega arith, (omega arith, (omega arith, (omega arith, (omega arith, tt)))))

  near-lst : Near (read_lst line)
  unfolding read_lst
  near-lst =
      either Near (lone_point (word line 1).names) _ _ (near-as _ _ (omega arith, tt))
      (near-as _ _ (omega arith, (omega arith, (omega arith, tt))))

  near-tree : Near (read_tree line)
  unfolding read_tree
  near-tree =
      let depth : Part = depth_given (word line 2).names in
      let n : (r : ℕ → Request) → Near (needed 2 depth r) = λ r. near-needed 2 depth r (omega arith) in
      either Near (lone_point (word line 1).names) _ _ (near-then _ _ (omega arith, tt) (n _))
      (near-then _ _ (omega arith, (omega arith, (omega arith, tt))) (n _))

  near-cpy : Near (read_cpy line)
  unfolding read_cpy
  near-cpy = near-as _ _ (omega arith, (omega arith, (omega arith, (omega arith, (omega arith, (omega arith, tt))))))

  near-dup : Near (read_dup line)
  unfolding read_dup
  near-dup = near-as _ _ (omega arith, (omega arith, (omega arith, (omega arith, (omega arith, (omega arith, tt))))))

  near-chn : Near (read_chn line)
  unfolding read_chn
  near-chn = near-as _ _ (omega arith, (omega arith, (omega arith, (omega arith, (omega arith, tt)))))

  near-dpr : Near (read_dpr line)
  unfolding read_dpr
  near-dpr = near-after _ 2 2 1 2 (omega arith) (near-needed 2 (dpr_code (declared_at line 2)) _ (omega arith))

  -- "DEL 1 to 8 names", and DST
  few_words : counted 1 8 line ≡ true → length (words line) - 1 ≤ 8
  unfolding counted
  few_words e = leb-true _ _ (and_right (leb 1 (length (words line) - 1)) _ e)

  near-several : (r : List Word → Request) → Near (read_names r line)
  unfolding read_names verdict
  near-several r = go (not (counted 1 8 line)) refl
    where
      go : (b : Bool) → not (counted 1 8 line) ≡ b
          → Near (read_as (r (drop 1 (words line)))
          (cond b (refused (refusal_at 6 (whole 0))) (verdict (misnamed 1 (length (words line)) line))))
      go true e = omega arith
      go false e =
          let l = few_words (not-false (counted 1 8 line) e) in
          near-as (r (drop 1 (words line))) (misnamed 1 (length (words line)) line) (misnamed-near 1 (length (words line)) line (omega arith))

  near-function : Near (read_function line)
  unfolding read_function
  near-function =
      either Near (is_function 67 82 68 line) _ _ near-crd
      (either Near (is_function 87 82 83 line) _ _ near-wrs
      (either Near (is_function 82 68 83 line) _ _ near-rds
      (either Near (is_function 67 80 89 line) _ _ near-cpy
      (either Near (is_function 68 85 80 line) _ _ near-dup
      (either Near (is_function 67 72 78 line) _ _ near-chn
      (either Near (is_function 68 69 76 line) _ _ (near-several del)
      (either Near (is_function 68 83 84 line) _ _ (near-several dst)
      (either Near (is_function 68 80 82 line) _ _ near-dpr
      (either Near (is_function 76 83 84 line) _ _ near-lst
      (either Near (is_tree line) _ _ near-tree
      (either Near (is_rewrite line) _ _ near-rewrite
      (omega arith))))))))))))

  near : Near (read line)
  unfolding read
  near = either Near (legal_line line) _ _ near-function (omega arith)

  -- the reader's answer
  pub place-near : (f : given.Refusal) → Err (reader.refusal_meant f) ≡ shown_read (read line) → f.place ≤ 8
  place-near f e = go (read line) near e
    where
      go : (x : Read) → Near x → Err (reader.refusal_meant f) ≡ shown_read x → f.place ≤ 8
      go (request r) h z = clash (cc)
      go (unread g) h z = let y : reader.refusal_meant f ≡ g = cc in rw (← y) at h

-- "At most 256 bytes"
legal-short : (line : List ℕ) → legal_line line ≡ true → length line ≤ 256
unfolding legal_line
legal-short line e = leb-true (length line) 256 (and_left (leb (length line) 256) (all in_line line) e)

module _ (line : List ℕ) where
  -- a line that was read as a request
  pub read_short : (q : Request) → read line ≡ request q → length line ≤ 256
  unfolding read
  read_short q e = go (legal_line line) refl e
    where
      go : (b : Bool) → legal_line line ≡ b → cond b (read_function line) (unread (refusal_at 4 (whole 0))) ≡ request q → length line ≤ 256
      go true l z = legal-short line l
      go false l z = clash (cc)

  -- .. and as none
  module _ (g : Refusal) (e : read line ≡ unread g) where
    none-asked : asked line [] ≡ unread g
    unfolding asked
    none-asked = rw e

    within : g.place.link ≤ length (chain (word line g.place.argument).names)
    within = (linked-fair line g (subst (Said (names_at line)) none-asked (said line []))).most

    unread-near : g.place.link ≤ 65535
    unfolding read
    unread-near = go (legal_line line) refl e
      where
        go : (b : Bool) → legal_line line ≡ b → cond b (read_function line) (unread (refusal_at 4 (whole 0))) ≡ unread g → g.place.link ≤ 65535
        go true l z =
            let k : ℕ = g.place.argument in
            omega (arith, rw (word-names line k) at within, chain-few line (legal-short line l) (word line k).start Own)
        go false l z = let y : refusal_at 4 (whole 0) ≡ g = cc in rw (← y) (omega arith)

  -- the link of the reader's answer
  pub link_near : (f : given.Refusal) → Err (reader.refusal_meant f) ≡ shown_read (read line) → f.link ≤ 65535
  link_near f e = go (read line) refl e
    where
      go : (x : Read) → read line ≡ x → Err (reader.refusal_meant f) ≡ shown_read x → f.link ≤ 65535
      go (request r) q z = clash (cc)
      go (unread g) q z = let y : reader.refusal_meant f ≡ g = cc in rw (← y) at (unread-near g q)

-- what the reader answers, with its refusal as the answer has it
pub read-shown : (x : Read) (w : Result answered.Request given.Refusal) (r : Result answered.Request code.Refusal) → reader.told w ≡ shown_read x
    → MatchResult w (λ q. r ≡ Ok q) (λ f. IsErrAnd r (λ y. y ≡ unread_by f)) → told r ≡ shown_read x
read-shown x (Ok q) r e h = rw (h, ← e)
read-shown x (Err f) r e h = rw (handed r _ h, ← e)
