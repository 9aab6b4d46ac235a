-- All cases marked P hold, because every definition computes: antt runs each case through the very definitions that
-- `request` and `mend` promise, and compares all seven numbers, every byte of the table and the reply.
use mathlib.Core.Bool.{Bool, true}
use mathlib.Core.List.{List, ◌∷◌, ◌++◌}
use mathlib.Core.Path.{◌≡◌, refl}
use lib.ListN.{replicate}
use Rattle.paper.specs.Number.{number_at, bytes_of}
use Rattle.paper.specs.Scan.{all_below, any_below, count_below, first_below, join_below}
use Rattle.paper.specs.Record.{held, zeros, blank, heading_record, rewritten, text_record}
use Rattle.paper.specs.Layout.{entry_record, packing, ahead, unpacking, six_name, six_field, six}
use Rattle.paper.specs.Table.{rec, lay, frees, text_room}
use Rattle.paper.specs.Name.{same, all, link_name, pointed, dot_r, chain, link_names, well_formed, legal_base, user_name, counting, user_number, before}
use Rattle.paper.specs.Declaration.{type_letter, lifetime_letter, level_letter, digit, code_at, level_at, point_at, lifetime_at, declaration, declared}
use Rattle.paper.specs.Octal.{digits, octal}
use Rattle.paper.specs.Line.{legal_line, placed, skipped, at_colon, close, closed, grow, split, solid, words, word}
use Rattle.paper.specs.Check.{verdict}
use Rattle.paper.specs.Request.{counted, first_wrong, old_from, new_to, each, between, declared_at, octal_at, read_crd, read_wrs, read_rds, read_lst, read_cpy, read_dup, read_chn, read_dpr, read_names, depth_of, read_tree, read_rewrite, read_function, read, asked}
use Rattle.paper.specs.Entry.{stands, bears, find, crowd, named, peopled}
use Rattle.paper.specs.Block.{share, block, file_text}
use Rattle.paper.specs.Sound.{as_above, holders_there, headings_there, users_right, names_padded, none_twice, all_named, none_crowded, directories_plain, texts_whole, no_other_text, names_legal, counts_true, shaped, sound}
use Rattle.paper.specs.Walk.{applies, look, enter, follow, to_directory, last_name, ended}
use Rattle.paper.specs.Store.{fills, run}
use Rattle.paper.specs.Count.{namings, counts_right, recounted}
use Rattle.paper.specs.Listing.{type_shown, lifetime_shown, level_shown, line, insert, in_order, listed, lines, opens, entry_by, lines_by, tree}
use Rattle.paper.specs.Effect.{freed, lost, settled, losing, making, new_file, crd_plan, wrs_plan, cpy_plan, dup_plan, renamed, chn_plan, recoded, dpr_plan, del_plan, destroying, dst_plan, part, rds_plan, lst_plan, lst_base_plan, lst_tree_plan, lst_base_tree_plan, emptying, laying, rewriting, rewrite_plan}
use Rattle.paper.specs.Mend.{anchored, keeps_text, after₁, after₂, round_stores, round, rounds_stores, clear_stores, cleared, mend_stores, mended}
use Rattle.paper.specs.Answer.{deleting, granted, entrance, requested, mendable, mending}
use Rattle.paper.specs.Index.{rank, insert_by, order_by, true_index, is_true, halving, ending, used, looked_up, admission, keeping, mend_admission, mend_keeping}
use Rattle.paper.specs.Sweep.{reached_in, reached, sweep_clears, live, sweep_stores, swept, sweepable, sweeping}
use Rattle.paper.specs.Case.{Case, holds, hold_all, links_a, cases}

-- `hold_all`, with every definition open
unfoldable pub hold : List Case → Bool
unfolding number_at bytes_of all_below any_below count_below first_below join_below held zeros blank heading_record rewritten text_record entry_record packing ahead unpacking six_name six_field rec lay frees text_room same all link_name pointed chain link_names well_formed legal_base user_name counting user_number before type_letter lifetime_letter level_letter digit code_at level_at point_at lifetime_at declaration declared digits octal legal_line placed skipped at_colon close closed grow split solid words word verdict counted first_wrong old_from new_to each between declared_at octal_at read_crd read_wrs read_rds read_lst read_cpy read_dup read_chn read_dpr read_names depth_of read_tree read_rewrite read_function read asked stands bears find crowd named peopled share block file_text as_above holders_there headings_there users_right names_padded none_twice all_named none_crowded directories_plain texts_whole no_other_text names_legal counts_true shaped sound applies look enter follow to_directory last_name ended run type_shown lifetime_shown level_shown line insert in_order listed lines opens entry_by lines_by tree freed lost settled losing making new_file crd_plan wrs_plan cpy_plan dup_plan renamed chn_plan recoded dpr_plan del_plan destroying dst_plan part rds_plan lst_plan lst_base_plan lst_tree_plan lst_base_tree_plan emptying laying rewriting rewrite_plan anchored keeps_text after₁ after₂ fills namings counts_right recounted round_stores round rounds_stores clear_stores cleared mend_stores mended deleting granted entrance requested mendable mending rank insert_by order_by true_index is_true halving ending used looked_up admission keeping mend_admission mend_keeping reached_in reached sweep_clears live sweep_stores swept sweepable sweeping links_a holds hold_all
hold = hold_all

pub all-cases-hold : hold_all cases ≡ true
unfolding hold cases
all-cases-hold = refl

-- document 02: "Document 01's record 1 is worked out again", in six-bit names; and its name comes back
pub six-record : entry_record six 0 65535 0 1 dot_r ≡ 2 ∷ 0 ∷ 255 ∷ 255 ∷ 0 ∷ 0 ∷ 1 ∷ replicate 9 0 ++ 178 ∷ 3 ∷ replicate 14 0
unfolding entry_record bytes_of packing six_field
six-record = refl

pub six-back : six_name (entry_record six 0 65535 0 1 dot_r) ≡ dot_r
unfolding entry_record number_at bytes_of packing ahead unpacking six_name six_field
six-back = refl
