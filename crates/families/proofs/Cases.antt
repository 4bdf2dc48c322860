-- The twelve proof cases of paper 01, and what edition 2 is said to give, hold of the definitions, by computation.
-- Assumes nothing.
use mathlib.Core.Path.{refl}
use mathlib.Core.List.{flat_map}
use Rattle.basics.specs.Sums.{total, range}
use Rattle.numbers.specs.Numbers.{one_less, letters_from}
use Rattle.listings.specs.Bytes.{same}
use Rattle.listings.specs.Orders.{lex_before, colex_by}
use Rattle.listings.specs.Places.{count_before}
use Rattle.listings.specs.Calls.{first_no, judged, place_of, onward, backward, stepped, act}
use Rattle.subsets.specs.Objects.{climbs, is_subset}
use Rattle.subsets.specs.Listing.{subsets}
use Rattle.anagrams.specs.Objects.{occurrences, tallies, is_anagram}
use Rattle.anagrams.specs.Listing.{words, anagrams}
use Rattle.set_partitions.specs.KeyOrder.{edition_of, key_before, keys_in_order}
use Rattle.set_partitions.specs.Objects.{opens, is_set_partition, keys, set_partition_before}
use Rattle.set_partitions.specs.Listing.{others_in, block_of, set_partitions}
use Rattle.integer_partitions.specs.Objects.{descends, is_integer_partition}
use Rattle.integer_partitions.specs.Listing.{integer_partitions}
use Rattle.dyck_words.specs.Objects.{balanced_from, is_dyck_word}
use Rattle.dyck_words.specs.Trees.{size, word, same_tree, tree_before, join, open_rows, parse, dyck_before}
use Rattle.dyck_words.specs.Listing.{nodes, trees_down, trees, dyck_words}
use Rattle.families.specs.Table.{no_counts}
use Rattle.families.specs.Families.{row, is_kind, in_table, floor_fits, edition_fits, lists_fit, asked_of_all, all_yes, allowed, object_length, is_object, comes_before, listing, count_of, rank_of}
use Rattle.families.specs.Questions.{asked, is_in, put, rank_given, opening, closing_for, refusal}
use Rattle.families.specs.Calls.{respond}
use Rattle.families.specs.Cases.{CasesHold, cases, edition_cases}

both_hold : CasesHold cases × CasesHold edition_cases
unfolding respond refusal opening closing_for put is_in asked rank_given first_no judged act place_of onward backward stepped count_before same lex_before colex_by no_counts row is_kind in_table floor_fits edition_fits lists_fit asked_of_all all_yes allowed object_length is_object comes_before listing count_of rank_of flat_map total range one_less letters_from climbs is_subset subsets occurrences tallies is_anagram words anagrams opens is_set_partition keys edition_of key_before keys_in_order set_partition_before others_in block_of set_partitions descends is_integer_partition integer_partitions balanced_from is_dyck_word size word same_tree tree_before join open_rows parse dyck_before nodes trees_down trees dyck_words
both_hold = (
  ((refl, tt), ((refl, (refl, tt)), ((refl, (refl, tt)), ((refl, tt), ((refl, tt), ((refl, tt), ((refl, (refl, (refl, tt))), ((refl, tt), ((refl, tt), ((refl, (refl, tt)), ((refl, (refl, tt)), ((refl, tt), tt)))))))))))),
  ((refl, (refl, (refl, tt))), ((refl, tt), tt)),
)

pub cases_hold : CasesHold cases
cases_hold = both_hold.0

pub edition_cases_hold : CasesHold edition_cases
edition_cases_hold = both_hold.1
