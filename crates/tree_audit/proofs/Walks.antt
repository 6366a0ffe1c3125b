-- The walk along the nodes of an index, leaf after leaf: what has been seen so far, and what a look at one leaf more, or the
-- end, tells. Assumes nothing.
use Prim.Native.Nat.{ℕ, suc, ◌+◌, ◌-◌, ◌*◌, ◌^◌, ◌≤◌, ◌<◌}
use mathlib.Core.Path.{◌≡◌, refl, sym, ◌∙◌}
use mathlib.Core.Logic.{⊎_elim}
use mathlib.Core.List.{List}
use mathlib.Core.Bool.{Bool, true, false, cond}
use native.Mathlib.Omega.{arith}
use native.Mathlib.Nat.{le_refl, mul-le-mul_right, mul-le-mul_left, one-le-pow}
use native.Mathlib.Numerals.{add-one}
use lib.ListN.{length}
use lib.Dec.{ltb}
use borrow.Author.Tests.{lt-ltb, le-ltb}
use Rattle.model.specs.Shape.{opens, valuation}
use Rattle.model.specs.Numbering.{nodes, opened, leaf_node}
use Rattle.model.specs.Pages.{pages_of}
use Rattle.model.specs.Tree.{nodes_of, Packed}
use Rattle.tree.proofs.Orders.{le_or_lt}
use Rattle.tree.proofs.Numbers.{nodes_zero, not_opened, leaf_closed, inners_le}
use Rattle.tree.proofs.Allotments.{opens-opened}
use Rattle.tree.specs.Places.{place_of, Reached}
use Rattle.tree_audit.specs.Times.{TimesAt, Readable}
use Rattle.tree_audit.specs.Stands.{span_of, first_of, Stands, Auditable, Openable}
use Rattle.tree_audit.proofs.Standings.{keys, leaves, node_in, node_there, leaf_there, leaf_past, stands_of_packed, packed_of_stands, span_none, span-some}

-- the leaves before leaf m stand; `node` is the number after those of their nodes, `first` the first record of leaf m
pub record Walked (at : ℕ → ℕ) (d N n : ℕ) (b words : List ℕ) (m node first : ℕ) : Type 0 where
  pub first_is : first ≡ first_of d N m
  pub node_is : node ≡ nodes d m
  pub stand : (j : ℕ) → j < m → Stands at d N n b words j

node_of_leaf : (d m : ℕ) → leaf_node d m ≡ nodes d m + opened d m
unfolding leaf_node
node_of_leaf d m = refl

next_nodes : (d m : ℕ) → nodes d (suc m) ≡ suc (leaf_node d m)
unfolding nodes leaf_node
next_nodes d m = refl

module _ (d N n : ℕ) (b words : List ℕ) {x : ℕ} {starts : List ℕ} (h : Auditable d N n (length b) x starts (length words)) where
  pub walked_none : Walked (place_of d x starts) d N n b words 0 0 0
  walked_none = record { first_is = omega arith; node_is = sym (nodes_zero d h.order_low); stand = λ j l. absurd (omega arith) }

  module _ {m node first : ℕ} (so : Walked (place_of d x starts) d N n b words m node first) where
    -- all leaves are behind
    pub walked_all : n ≤ first → Packed (place_of d x starts) d (keys d N n b words h) words
    walked_all past = packed_of_stands d N n b words h (λ j l. so.stand j (omega (arith, leaf_past d N n b words h m (rw so.first_is at past))))

    module _ (here : first < n) where
      pub walked_there : m < leaves d N n b words h
      walked_there = leaf_there d N n b words h m (rw so.first_is at here)

      pub walked_few : m ≤ 65536
      walked_few =
          let wide : 1 ≤ d - 1 = omega (arith, h.order_low) in
          let one : 1 ≤ N = omega (arith, h.page_low) in
          omega (arith, so.first_is, h.records_few, mul-le-mul_left m wide, mul-le-mul_left (m * (d - 1)) one)

      low : nodes d m ≤ leaf_node d m
      low = omega (arith, node_of_leaf d m)

      pub walked_in : node < nodes_of d (pages_of N n)
      walked_in = rw so.node_is (node_in d N n b words h m (nodes d m) walked_there low)

      pub walked_openable : (at span : ℕ) → at ≡ place_of d x starts node → span ≤ m → Openable (length b) (length words) at (d - 1) N n first span
      walked_openable at span e few = record {
        node_there = rw (e, so.node_is) (node_there d N n b words h m (nodes d m) walked_there low);
        records_there = h.long_log;
        records_few = h.records_few;
        width_low = omega (arith, h.order_low);
        width_high = omega (arith, h.order_high);
        page_low = omega (arith, h.page_low);
        there = here;
        span_fits = rw so.first_is (mul-le-mul_right N (mul-le-mul_right (d - 1) few));
      }

      pub walked_readable : (leaf : ℕ) → leaf ≡ place_of d x starts (leaf_node d m) → Readable (length b) (length words) leaf (d - 1) first N n
      walked_readable leaf e = record {
        node_there = rw e (node_there d N n b words h m (leaf_node d m) walked_there (le_refl (leaf_node d m)));
        records_there = h.long_log;
        stop_fits = h.records_few;
        width_fits = omega (arith, h.order_high);
        first_fits = omega (arith, h.records_few);
        step_fits = omega (arith, h.page_high);
      }

      -- numbers of nodes are small, and both nodes can be reached
      pub walked_small : leaf_node d m ≤ 131072
      walked_small = omega (arith, leaf_closed d h.order_low m, inners_le d h.order_low m, walked_few)

      pub node_small : node ≤ 131072
      node_small = omega (arith, so.node_is, low, walked_small)

      pub node_reached : Reached d x starts (length words) node
      node_reached = h.laid.reach node walked_in

      pub leaf_reached : {leaf : ℕ} → leaf ≡ leaf_node d m → Reached d x starts (length words) leaf
      leaf_reached e = rw e (h.laid.reach (leaf_node d m) (node_in d N n b words h m (leaf_node d m) walked_there (le_refl (leaf_node d m))))

      module _ (span : ℕ) (is : span ≡ span_of d m) where
        no_span : opens d m ≡ false → span ≡ 0
        no_span o = is ∙ span_none d m o

        a-span : opens d m ≡ true → span ≡ d ^ valuation d m
        a-span o = is ∙ span-some d m o

        span_pos : opens d m ≡ true → 0 < span
        span_pos o = omega (arith, a-span o, one-le-pow (valuation d m) d (omega (arith, h.order_low)))

        pub walked_leaf : cond (ltb 0 span) (node + 1) node ≡ leaf_node d m
        walked_leaf = by (opens d m) refl
          where
            by : (o : Bool) → opens d m ≡ o → cond (ltb 0 span) (node + 1) node ≡ leaf_node d m
            by true o = rw (lt-ltb 0 span (span_pos o), node_of_leaf d m, opens-opened d h.order_low m o) (omega (arith, so.node_is))
            by false o = rw (le-ltb 0 span (omega (arith, no_span o)), node_of_leaf d m, not_opened d m o) (omega (arith, so.node_is))

        opening : 0 < span → opens d m ≡ true
        opening p = by (opens d m) refl
          where
            by : (o : Bool) → opens d m ≡ o → o ≡ true
            by true o = refl
            by false o = absurd (omega (arith, no_span o))

        module _ (at : ℕ) (spot : at ≡ place_of d x starts node) where
          abbrev Inner : Type 0
          Inner = 0 < span → TimesAt b (first - N) (span * (d - 1) * N) (n - N) words at (d - 1)

          inner-of-stands : Stands (place_of d x starts) d N n b words m → Inner
          inner-of-stands s p =
              let o = opening p in
              rw (a-span o, so.first_is, spot, so.node_is) (s.inner o)

          pub walked_not_opened : (Inner → ⊥) → Packed (place_of d x starts) d (keys d N n b words h) words → ⊥
          walked_not_opened other p = other (inner-of-stands (stands_of_packed d N n b words h p m walked_there))

          module _ (leaf place : ℕ) (number : leaf ≡ leaf_node d m) (e : place ≡ place_of d x starts leaf) where
            pub walked_not_leaf : (TimesAt b first N n words place (d - 1) → ⊥) → Packed (place_of d x starts) d (keys d N n b words h) words → ⊥
            walked_not_leaf other p = other (rw (e, number, so.first_is) (stands_of_packed d N n b words h p m walked_there).leaf)

            here-stands : Inner → TimesAt b first N n words place (d - 1) → Stands (place_of d x starts) d N n b words m
            here-stands inner times = record {
              leaf = rw (e, number, so.first_is) at times;
              inner = λ o. rw (a-span o, so.first_is, spot, so.node_is) at (inner (span_pos o));
            }

            pub walked_next : Inner → TimesAt b first N n words place (d - 1) → Walked (place_of d x starts) d N n b words (m + 1) (leaf + 1) (first + (d - 1) * N)
            walked_next inner times = record {
              first_is = omega (arith, so.first_is);
              node_is = rw (add-one m, next_nodes d m) (omega (arith, number));
              stand = λ j l. ⊎_elim (λ q. last j (omega arith)) (λ q. so.stand j q) (le_or_lt m j);
            }
              where
                last : (j : ℕ) → j ≡ m → Stands (place_of d x starts) d N n b words j
                last j z = rw z (here-stands inner times)
