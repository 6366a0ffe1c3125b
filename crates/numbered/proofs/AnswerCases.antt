-- Answers in numbers, computed: in each all fields differ, so that no two can be exchanged. Assumes nothing.
use Rattle.std.specs.Prelude.{Ok, Err}
use mathlib.Core.Path.{◌≡◌, refl}
use mathlib.Core.List.{List, [], ◌∷◌, map}
use lib.IntN.{pos, negsuc}
use Rattle.model.specs.declared.Numbers.{Numbers}
use Rattle.model.specs.declared.Refusal.{Refusal}
use Rattle.model.specs.declared.Refusal.TheVariants.{Header, Order, PageSize, RowLimit, Memory, TimeNotAbove, ArticlePresent, ArticleAbsent, RowsFull, LogFull, IndexFull, TimeAfterLast, OutputShort, NotToKeep, CatalogueFull, NotKept, WrongRecord, WrongMark}
use Rattle.model.specs.declared.Side.TheVariants.{Earlier, Later}
use Rattle.model.specs.declared.Place.TheVariants.{Empty, Area, Current}
use Rattle.model.specs.Answers.{refusal}
use Rattle.model.specs.Promises.{refused_number}
use Rattle.answers.specs.Question.{record_in, number_of}
use Rattle.numbered.specs.Answers.{change_out, drop_marked_out, position_out, later_of, table_out, place_out, area_out, span_of, view_out, net_change_out, units_out, difference_out, lengths_out}

-- every refusal's number, as 01 numbers its questions
abbrev refusals : List Refusal
refusals =
    Header ∷ Order ∷ PageSize ∷ RowLimit ∷ Memory ∷ TimeNotAbove ∷ ArticlePresent ∷ ArticleAbsent ∷ RowsFull ∷ LogFull ∷ IndexFull ∷ TimeAfterLast ∷ OutputShort
    ∷ NotToKeep ∷ CatalogueFull ∷ NotKept ∷ WrongRecord (record { 0 = 33 }) ∷ WrongMark ∷ []

numbers_are : map number_of refusals ≡ 1 ∷ 2 ∷ 3 ∷ 4 ∷ 5 ∷ 6 ∷ 7 ∷ 8 ∷ 9 ∷ 10 ∷ 11 ∷ 12 ∷ 13 ∷ 14 ∷ 15 ∷ 16 ∷ 17 ∷ 18 ∷ []
unfolding refused_number refusal
numbers_are = refl

abbrev s : Numbers
s = record { order = 3; page = 2; limit = 4; records = 8; last = 60; live = 5; files = 1 }

changed : change_out s (Ok tt) ≡ record { numbers = s; question = 0; «record» = 0 }
unfolding change_out
changed = refl

wrong : change_out s (Err (WrongRecord (record { 0 = 33 }))) ≡ record { numbers = s; question = 17; «record» = 33 }
unfolding change_out refused_number record_in refusal
wrong = refl

-- 3 went, and 1 is left
cleared : drop_marked_out s (Ok 3) ≡ record { numbers = s; question = 0; gone = 3 }
unfolding drop_marked_out
cleared = refl

not_cleared : drop_marked_out s (Err WrongMark) ≡ record { numbers = s; question = 18; gone = 0 }
unfolding drop_marked_out refused_number refusal
not_cleared = refl

placed : position_out (Ok (record { page = record { 0 = 7 }; requests = 15 })) ≡ record { question = 0; page = 7; requests = 15 }
unfolding position_out
placed = refl

unplaced : position_out (Err Header) ≡ record { question = 1; page = 0; requests = 0 }
unfolding position_out refused_number refusal
unplaced = refl

later : table_out (Ok (record { rows = 11; side = Later; between = 13 })) ≡ record { question = 0; rows = 11; later = 1; between = 13 }
unfolding table_out later_of
later = refl

untabled : table_out (Err OutputShort) ≡ record { question = 13; rows = 0; later = 0; between = 0 }
unfolding table_out refused_number refusal
untabled = refl

-- R = 4, 100 bytes of areas, a table of 32: file 2 with 3 rows, its part bytes 64 to 87
in_area : view_out 4 100 32 (Ok (record { place = Area 2; rows = 3; side = Later; between = 5 })) ≡ record { question = 0; place = 1; area = 2; rows = 3; later = 1; between = 5; start = 64; length = 24 }
unfolding view_out span_of place_out area_out later_of
in_area = refl

-- the last area lent is cut
cut : view_out 4 100 32 (Ok (record { place = Area 3; rows = 6; side = Earlier; between = 5 })) ≡ record { question = 0; place = 1; area = 3; rows = 6; later = 0; between = 5; start = 96; length = 4 }
unfolding view_out span_of place_out area_out later_of
cut = refl

in_table : view_out 4 100 32 (Ok (record { place = Current; rows = 3; side = Later; between = 5 })) ≡ record { question = 0; place = 2; area = 0; rows = 3; later = 1; between = 5; start = 0; length = 24 }
unfolding view_out span_of place_out area_out later_of
in_table = refl

empty : view_out 4 100 32 (Ok (record { place = Empty; rows = 0; side = Earlier; between = 5 })) ≡ record { question = 0; place = 0; area = 0; rows = 0; later = 0; between = 5; start = 0; length = 0 }
unfolding view_out span_of place_out area_out later_of
empty = refl

unviewed : view_out 4 100 32 (Err Header) ≡ record { question = 1; place = 0; area = 0; rows = 0; later = 0; between = 0; start = 0; length = 0 }
unfolding view_out refused_number refusal
unviewed = refl

netted : net_change_out (Ok 19) ≡ record { question = 0; entries = 19 }
unfolding net_change_out
netted = refl

totalled : units_out (Ok 12884901885) ≡ record { question = 0; units = 12884901885 }
unfolding units_out
totalled = refl

-- the stock fell by 18
fallen : difference_out (Ok (negsuc 17)) ≡ record { question = 0; units = negsuc 17 }
unfolding difference_out
fallen = refl

no_units : units_out (Err Header) ≡ record { question = 1; units = 0 }
unfolding units_out refused_number refusal
no_units = refl

no_difference : difference_out (Err Header) ≡ record { question = 1; units = pos 0 }
unfolding difference_out refused_number refusal
no_difference = refl

short : net_change_out (Err OutputShort) ≡ record { question = 13; entries = 0 }
unfolding net_change_out refused_number refusal
short = refl

lent : lengths_out (Ok (record { log = 144; index = 8; table = 32; entries = 2; areas = 64; output = 96; workspace = 48 }))
    ≡ record { question = 0; log = 144; index = 8; table = 32; entries = 2; areas = 64; output = 96; workspace = 48 }
unfolding lengths_out
lent = refl

-- refused lengths are no lengths
unlent : lengths_out (Err CatalogueFull) ≡ record { question = 15; log = 0; index = 0; table = 0; entries = 0; areas = 0; output = 0; workspace = 0 }
unfolding lengths_out refused_number refusal
unlent = refl
