-- A request that is read names the line's own words, since each function's reader builds it from them and a verdict only keeps
-- or drops it; so from an offset in the request the names there are the paper's, and those of DEL and DST go from word to word.
use mathlib.Core.List.{List, [], ◌∷◌}
use mathlib.Core.Path.{◌≡◌, refl}
use Prim.Native.Nat.{ℕ, suc, ◌+◌}
use native.Mathlib.Omega.{arith}
use lib.ListN.{length, get_or, drop}
use lib.Seq.{get_or-drop}
use Rattle.paper.specs.Name.{lone_point}
use Rattle.paper.specs.Declaration.{Part, given, not_given, wrs_lifetime, dpr_code}
use Rattle.paper.specs.Line.{Word, words, word, legal_line}
use Rattle.paper.specs.Check.{Refusal, Check, Verdict, passed, refused, verdict}
use Rattle.paper.specs.Request.{Request, del, dst, Read, request, unread, after, needed, declared_at, is_function, read_crd, read_wrs, read_rds, read_lst, read_cpy, read_dup, read_chn, read_dpr, read_names, depth_given, read_tree, is_tree, read_rewrite, is_rewrite, read_function, read}
use Rattle.laws.proofs.Tests.{either}
use Rattle.reader.specs.Tied.{Tied, TiedRead}

module _ (line : List ℕ) where
  keeps : (x : Read) (cs : List Check) → TiedRead line x → TiedRead line (after (verdict cs) x)
  unfolding TiedRead
  keeps x cs t = go (verdict cs)
    where
      go : (v : Verdict) → TiedRead line (after v x)
      go passed = t
      go (refused f) = tt

  gives : (r : Request) (cs : List Check) → Tied line r → TiedRead line (after (verdict cs) (request r))
  unfolding TiedRead
  gives r cs t = keeps (request r) cs t

  needs-one : (place : ℕ) (p : Part) (r : ℕ → Request) → ((n : ℕ) → Tied line (r n)) → TiedRead line (needed place p r)
  unfolding TiedRead
  needs-one place (given n) r t = t n
  needs-one place not_given r t = tt

  none : (f : Refusal) → TiedRead line (unread f)
  unfolding TiedRead
  none f = tt

  tied-crd : TiedRead line (read_crd line)
  unfolding read_crd
  tied-crd = gives _ _ refl

  tied-wrs : TiedRead line (read_wrs line)
  unfolding read_wrs
  tied-wrs = keeps _ _ (needs-one 1 (wrs_lifetime (declared_at line 1)) _ (λ n. refl))

  tied-rds : TiedRead line (read_rds line)
  unfolding read_rds
  tied-rds = gives _ _ refl

  tied-cpy : TiedRead line (read_cpy line)
  unfolding read_cpy
  tied-cpy = gives _ _ (refl, refl)

  tied-dup : TiedRead line (read_dup line)
  unfolding read_dup
  tied-dup = gives _ _ (refl, refl)

  tied-chn : TiedRead line (read_chn line)
  unfolding read_chn
  tied-chn = gives _ _ (refl, refl)

  tied_names : (r : List Word → Request) → Tied line (r (drop 1 (words line))) → TiedRead line (read_names r line)
  unfolding read_names
  tied_names r t = gives _ _ t

  tied-dpr : TiedRead line (read_dpr line)
  unfolding read_dpr
  tied-dpr = keeps _ _ (needs-one 2 (dpr_code (declared_at line 2)) _ (λ n. refl))

  tied-lst : TiedRead line (read_lst line)
  unfolding read_lst
  tied-lst = either (TiedRead line) (lone_point (word line 1).names) _ _ (gives _ _ tt) (gives _ _ refl)

  tied-tree : TiedRead line (read_tree line)
  unfolding read_tree
  tied-tree =
      either (TiedRead line) (lone_point (word line 1).names) _ _ (keeps _ _ (needs-one 2 (depth_given (word line 2).names) _ (λ n. tt)))
      (keeps _ _ (needs-one 2 (depth_given (word line 2).names) _ (λ n. refl)))

  tied-rewrite : TiedRead line (read_rewrite line)
  unfolding read_rewrite
  tied-rewrite = gives _ _ refl

  tied-function : TiedRead line (read_function line)
  unfolding read_function
  tied-function =
      either (TiedRead line) (is_function 67 82 68 line) _ _ tied-crd
      (either (TiedRead line) (is_function 87 82 83 line) _ _ tied-wrs
      (either (TiedRead line) (is_function 82 68 83 line) _ _ tied-rds
      (either (TiedRead line) (is_function 67 80 89 line) _ _ tied-cpy
      (either (TiedRead line) (is_function 68 85 80 line) _ _ tied-dup
      (either (TiedRead line) (is_function 67 72 78 line) _ _ tied-chn
      (either (TiedRead line) (is_function 68 69 76 line) _ _ (tied_names del refl)
      (either (TiedRead line) (is_function 68 83 84 line) _ _ (tied_names dst refl)
      (either (TiedRead line) (is_function 68 80 82 line) _ _ tied-dpr
      (either (TiedRead line) (is_function 76 83 84 line) _ _ tied-lst
      (either (TiedRead line) (is_tree line) _ _ tied-tree
      (either (TiedRead line) (is_rewrite line) _ _ tied-rewrite
      (none _))))))))))))

  -- what is read names the line's own words
  pub tied : TiedRead line (read line)
  unfolding read
  tied = either (TiedRead line) (legal_line line) _ _ tied-function (none _)

  -- the names of DEL and of DST are word 1, word 2 and so on
  pub rest-word : (j : ℕ) → get_or (drop 1 (words line)) j (record { start = length line; names = [] ∷ [] }) ≡ word line (suc j)
  unfolding word
  rest-word j =
      let e : 1 + j ≡ suc j = omega arith in
      rw (get_or-drop 1 (words line) j (record { start = length line; names = [] ∷ [] }), e)
