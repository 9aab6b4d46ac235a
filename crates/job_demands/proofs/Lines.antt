-- What the box reads in the two lines that the lamp composes. Before a closed rest that begins with a colon, `M` and `RDS` are the first of
-- several names, which no declaration and no function is; before any other rest the count of words makes it one word, the same in both.
use mathlib.Core.Bool.{Bool, true, false, ◌&&◌, cond, true≢false}
use mathlib.Core.List.{List, [], ◌∷◌, ◌++◌, map}
use mathlib.Core.Logic.{◌⊎◌, inl, inr}
use mathlib.Core.Path.{◌≡◌, refl, sym, ap, ◌∙◌, subst}
use Prim.Native.Nat.{ℕ, ◌≤◌}
use native.Mathlib.Omega.{arith}
use lib.ListN.{length}
use lib.Dec.{leb}
use borrow.Author.Tests.{eqb-true, leb-true, le-leb}
use Rattle.paper.specs.Name as N
use Rattle.paper.specs.Name.{pointed, dot_w, all, in_name, link_name, well_formed, legal_base, base_name}
use Rattle.paper.specs.Declaration.{Part, not_given, declared}
use Rattle.paper.specs.Octal.{part_of}
use Rattle.paper.specs.Line.{in_line, Spot, blank_spot, at_colon, close, closed, grow, split, Word, solid, word, legal_line}
use Rattle.paper.specs.Check.{verdict}
use Rattle.paper.specs.Request.{own, old_from, Request, wrs, rds, request, octal_at, read_rds, read_function, read, asked}
use Rattle.paper.specs.Effect.{chain_of}
use Rattle.laws.proofs.Tests.{truth, clash, and_right, and_both, and_parts}
use Rattle.demands.proofs.Request.Formed.{Named}
use Rattle.demands.proofs.Request.Read.{Right, read_right}
use Rattle.job.specs.Filing.{below, wrs_line}
use Rattle.job.specs.Reading.{rds_line}
use Rattle.job_demands.proofs.Bare.{bare, names_of, spoken, spoken-words}
use Rattle.job_demands.proofs.Closed.{split-some, names-some, front, last_piece, one_word, fore}
use Rattle.job_demands.proofs.Heard.{asked-read, read_by, read_as_lem, word-is, function-wrs, function-rds, function-none, heard, rds-passes}

-- ---- the words of the two lines

-- `WRS M ` and a rest, `RDS ` and a rest
abbrev filing_line : List ℕ → List ℕ
filing_line s = 87 ∷ 82 ∷ 83 ∷ 32 ∷ 77 ∷ 32 ∷ s

abbrev reading_line : List ℕ → List ℕ
reading_line s = 82 ∷ 68 ∷ 83 ∷ 32 ∷ s

-- the rest closed, and the names of its words
abbrev rest : List ℕ → List Spot
rest s = closed (map bare s)

abbrev rest_words : List ℕ → List (List (List ℕ))
rest_words s = names_of (solid (split blank_spot (rest s)))

spoken-wrs : (s : List ℕ) → at_colon (rest s) ≡ false
    → spoken (filing_line s) ≡ ((87 ∷ 82 ∷ 83 ∷ []) ∷ []) ∷ ((77 ∷ []) ∷ []) ∷ rest_words s
unfolding spoken closed close at_colon split grow solid
spoken-wrs s e = rw e

spoken-rds : (s : List ℕ) → at_colon (rest s) ≡ false
    → spoken (reading_line s) ≡ ((82 ∷ 68 ∷ 83 ∷ []) ∷ []) ∷ rest_words s
unfolding spoken closed close at_colon split grow solid
spoken-rds s e = rw e

-- a rest that begins with a colon is joined to the word before it, which then has two names or more
record Joined (s : List ℕ) : Type 0 where
  pub first : List ℕ
  pub names : List (List ℕ)
  pub others : List (List (List ℕ))
  pub wrs : spoken (filing_line s) ≡ ((87 ∷ 82 ∷ 83 ∷ []) ∷ []) ∷ ((77 ∷ []) ∷ first ∷ names) ∷ others
  pub rds : spoken (reading_line s) ≡ ((82 ∷ 68 ∷ 83 ∷ []) ∷ first ∷ names) ∷ others

joined : (s : List ℕ) → at_colon (rest s) ≡ true → Joined s
unfolding spoken closed close at_colon split grow solid
joined s e = go (rest s) refl e
  where
    go : (y : List Spot) → rest s ≡ y → at_colon y ≡ true → Joined s
    go [] q f = absurd (true≢false (sym f))
    go (c ∷ x) q f =
        let g : blank_spot c ≡ false = rw (eqb-true c.byte 58 f) in
        let r = split-some blank_spot x in
        let n = names-some r.0 in
        record {
          first = n.0;
          names = n.1;
          others = names_of (solid r.1);
          wrs = rw (q, f, g, r.2, f, n.2);
          rds = rw (q, f, g, r.2, f, n.2);
        }

one_left : (ws : List (List (List ℕ))) → length ws ≡ 1 → (n : List (List ℕ)) × (ws ≡ n ∷ [])
one_left [] e = let z : ⊥ = omega arith in absurd z
one_left (n ∷ []) e = (n, refl)
one_left (n ∷ m ∷ ws) e = let z : ⊥ = omega arith in absurd z

-- a rest that is a word of its own, with its names
record Apart (s : List ℕ) : Type 0 where
  pub apart : at_colon (rest s) ≡ false
  pub names : List (List ℕ)
  pub one : rest_words s ≡ names ∷ []

-- `M` joined to the rest is no declaration: 9
filing-read : (s : List ℕ) (r : Request) → read_function (filing_line s) ≡ request r → Apart s × (r ≡ wrs 1 not_given not_given (word (filing_line s) 2))
unfolding declared
filing-read s r e = go (truth (at_colon (rest s)))
  where
    go : (at_colon (rest s) ≡ true) ⊎ (at_colon (rest s) ≡ false) → Apart s × (r ≡ wrs 1 not_given not_given (word (filing_line s) 2))
    go (inl c) =
        let w = (joined s c).wrs in
        absurd (true≢false (sym (heard (filing_line s) _ _ _ r w (sym (function-wrs (filing_line s) _ w) ∙ e)).fit))
    go (inr c) =
        let w = spoken-wrs s c in
        let h = heard (filing_line s) _ _ _ r w (sym (function-wrs (filing_line s) _ w) ∙ e) in
        let o = one_left (rest_words s) h.count in
        (record { apart = c; names = o.0; one = o.1 }, h.medium refl)

filing-word : (s : List ℕ) (a : Apart s) → (word (filing_line s) 2).names ≡ a.names
filing-word s a = word-is (filing_line s) 2 a.names (rw (spoken-wrs s a.apart, a.one))

-- `RDS` joined to the rest is no function: 5
reading-read : (s : List ℕ) (r : Request) → read_function (reading_line s) ≡ request r
    → (w : Word) × (first : Part) × (count : Part) × (r ≡ rds (old_from w) w first count)
unfolding read_rds
reading-read s r e = go (truth (at_colon (rest s)))
  where
    go : (at_colon (rest s) ≡ true) ⊎ (at_colon (rest s) ≡ false) → (w : Word) × (first : Part) × (count : Part) × (r ≡ rds (old_from w) w first count)
    go (inl c) = let f = function-none (reading_line s) _ _ _ _ (joined s c).rds in clash (cc)
    go (inr c) =
        let x = read_as_lem _ r _ (sym (function-rds (reading_line s) _ (spoken-rds s c)) ∙ e) in
        (word (reading_line s) 1, part_of (octal_at (reading_line s) 2), part_of (octal_at (reading_line s) 3), x.0)

reading-word : (s : List ℕ) (a : Apart s) → (word (reading_line s) 1).names ≡ a.names
reading-word s a = word-is (reading_line s) 1 a.names (rw (spoken-rds s a.apart, a.one))

reading-passes : (s : List ℕ) (a : Apart s) → well_formed a.names ≡ true → legal_base (base_name a.names) ≡ true
    → read_function (reading_line s) ≡ request (rds own (word (reading_line s) 1) not_given not_given)
reading-passes s a f l =
    let w = spoken-rds s a.apart in
    let v = spoken-words (reading_line s) ∙ w in
    function-rds (reading_line s) _ w ∙ rds-passes (reading_line s) _ a.names (rw a.one at v) f l

-- ---- the lamp's lines

-- `.W` is put before the chain's names, if at all
chain-after : (n : List ℕ) (ns : List (List ℕ)) (l : List ℕ) → N.chain (n ∷ ns ++ l ∷ []) ≡ N.chain (n ∷ ns) ++ l ∷ []
unfolding N.chain
chain-after n ns l = go (pointed n)
  where
    go : (t : Bool) → cond t (n ∷ ns ++ l ∷ []) (dot_w ∷ n ∷ ns ++ l ∷ []) ≡ cond t (n ∷ ns) (dot_w ∷ n ∷ ns) ++ l ∷ []
    go true = refl
    go false = refl

-- the names of a chain that stand before a link put after it, with the supplied `.W`
unfoldable pub prefix : List ℕ → List (List ℕ)
prefix chain = N.chain (fore chain)

chain-prefix : (chain link : List ℕ) → N.chain (fore chain ++ link ∷ []) ≡ prefix chain ++ link ∷ []
unfolding prefix fore
chain-prefix chain link =
    let r = names-some (last_piece (split blank_spot (front (map bare chain)))) in
    rw r.2 (chain-after r.0 r.1 link)

pub prefix-some : (chain : List ℕ) → 1 ≤ length (prefix chain)
unfolding prefix fore N.chain
prefix-some chain = let r = names-some (last_piece (split blank_spot (front (map bare chain)))) in rw r.2 (go (pointed r.0) r.0 r.1)
  where
    go : (t : Bool) (n : List ℕ) (ns : List (List ℕ)) → 1 ≤ length (cond t (n ∷ ns) (dot_w ∷ n ∷ ns))
    go true n ns = omega arith
    go false n ns = omega arith

module _ (chain link : List ℕ) (legal : link_name link ≡ true) where
  plain : all in_name link ≡ true
  unfolding link_name
  plain = and_right (leb 1 (length link) && leb (length link) 10) _ legal

  named : (w : Word) (a : Apart (below chain link)) → w.names ≡ a.names → chain_of w ≡ prefix chain ++ link ∷ []
  named w a e = rw (e, one_word chain link a.names plain a.one) (chain-prefix chain link)

pub wrs-names : (chain link text : List ℕ) (r : Request) → link_name link ≡ true → asked (wrs_line chain link) text ≡ request r
    → (w : Word) × (r ≡ wrs 1 not_given not_given w) × (chain_of w ≡ prefix chain ++ link ∷ [])
unfolding wrs_line
wrs-names chain link text r l e =
    let x = filing-read (below chain link) r (read_by _ r (asked-read _ text r e)).1 in
    (word (filing_line (below chain link)) 2, x.1, named chain link l (word (filing_line (below chain link)) 2) x.0 (filing-word _ x.0))

-- the reading line, if it is read, is an RDS, whatever the link
pub rds-read : (chain link : List ℕ) (r : Request) → read (rds_line chain link) ≡ request r
    → (w : Word) × (first : Part) × (count : Part) × (r ≡ rds (old_from w) w first count)
unfolding rds_line
rds-read chain link r e = reading-read (below chain link) r (read_by (reading_line (below chain link)) r e).1

-- a line that is legal after `WRS M ` is legal after `RDS `
legal-shorter : (s : List ℕ) → legal_line (filing_line s) ≡ true → legal_line (reading_line s) ≡ true
unfolding legal_line all
legal-shorter s e =
    let f = and_parts (leb (length (filing_line s)) 256) _ e in
    let n = leb-true (length (filing_line s)) 256 f.0 in
    and_both (leb (length (reading_line s)) 256) (all in_line (reading_line s)) (le-leb (length (reading_line s)) 256 (omega arith)) f.1

-- where the filing line is read, so is the reading line, whatever text is lent with it: the same chain, and whole
pub rds-reads : (chain link text x : List ℕ) (r : Request) → link_name link ≡ true → asked (wrs_line chain link) text ≡ request r
    → (w : Word) × (asked (rds_line chain link) x ≡ request (rds own w not_given not_given)) × (chain_of w ≡ prefix chain ++ link ∷ [])
unfolding wrs_line rds_line asked read verdict
rds-reads chain link text x r l e =
    let s = below chain link in
    let g = read_by (filing_line s) r (asked-read (filing_line s) text r e) in
    let f = filing-read s r g.1 in
    let q = filing-word s f.0 in
    let n : Named (word (filing_line s) 2) = (subst (Right text) (e ∙ ap request f.1) (read_right (filing_line s) text)).name in (
      word (reading_line s) 1,
      rw (legal-shorter s g.0, reading-passes s f.0 (rw q at n.formed) (rw q at n.legal)),
      named chain link l (word (reading_line s) 1) f.0 (reading-word s f.0),
    )
