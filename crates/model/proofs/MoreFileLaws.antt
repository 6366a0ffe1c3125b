-- More files, no more requests (02, wish 9): of two stores with one log, in every memory, no more lies between the time and the outset
-- of the one that holds every time that the other holds. Assumes nothing.
use Prim.Native.Nat.{ℕ, ◌≤◌}
use mathlib.Core.Path.{◌≡◌, refl, sym, ap, ◌∙◌}
use mathlib.Core.List.Memᴰ
use mathlib.Core.List.{List, [], ◌∷◌, ◌++◌, Memᴰ}
use mathlib.Core.Logic.{◌⊎◌, inl, inr}
use mathlib.Core.Bool.{true}
use lib.ListN.{take}
use Rattle.model.specs.declared.Held.{Held}
use Rattle.model.specs.Memory.{State, log_of}
use Rattle.model.specs.Outset.{empty_table, current_table, files_held, held, measure, between, earlier_for, later_for, outset_for}
use Rattle.model.specs.Files.{files_of, is_kept}
use Rattle.model.specs.MoreFiles.{HoldsEvery, NoFarther}
use Rattle.model.specs.Demands.{FileHeld}
use Rattle.model.proofs.HeldFiles.{held_of_kept, kept_of_member}
use Rattle.model.proofs.BetweenLaws.{requests_rise}
use Rattle.model.proofs.NearestLaws.{nearest, chosen-held, chosen-between}

-- a table of time t is among these
record At (t : ℕ) (hs : List Held) : Type 0 where
  table : Held
  among : Memᴰ table hs
  of_time : table.time ≡ t

-- ---- two stores with one log

module _ (more fewer : State) (one : log_of more ≡ log_of fewer) (last : more.numbers.last ≡ fewer.numbers.last) (every : HoldsEvery more fewer) where
  -- a table held by the one has its time held by the other
  held-too : (h : Held) → Memᴰ h (held fewer) → At h.time (held more)
  held-too h m = by_cases (Memᴰ.cases_cons m)
    where
      of-file : FileHeld more h.time → At h.time (held more)
      of-file x = record { table = _; among = x.is_held; of_time = refl }

      kept : Memᴰ h (files_held fewer) → is_kept h.time (files_of fewer) ≡ true
      kept n = kept_of_member fewer.numbers.limit fewer.memory.areas h 0 0 (take fewer.numbers.files fewer.memory.catalogue) n

      by_place : Memᴰ h (files_held fewer) ⊎ Memᴰ h (current_table fewer ∷ []) → At h.time (held more)
      by_place (inl n) = of-file (held_of_kept more h.time (every h.time (kept n)))
      by_place (inr n) =
          record {
            table = current_table more;
            among = Memᴰ.tail (Memᴰ.append_right (files_held more) (Memᴰ.head refl));
            of_time = last ∙ sym (ap (λ (x : Held). x.time) (Memᴰ.eq_of_singleton n));
          }

      by_cases : (h ≡ empty_table) ⊎ Memᴰ h (files_held fewer ++ (current_table fewer ∷ [])) → At h.time (held more)
      by_cases (inl e) = record { table = empty_table; among = Memᴰ.head refl; of_time = sym (ap (λ (x : Held). x.time) e) }
      by_cases (inr n) = by_place (Memᴰ.append_cases (files_held fewer) n)

  no-farther-than : (t : ℕ) → t ≤ more.numbers.last → (outset_for more t).between ≤ (outset_for fewer t).between
  no-farther-than t l =
      let c = outset_for fewer t in
      let h : At c.outset.time (held more) =
      held-too c.outset (chosen-held (measure fewer) (requests_rise fewer) t (current_table fewer) (files_held fewer) (rw (← last) l)) in
      let far : c.between ≡ between (measure fewer) t c.outset = chosen-between (measure fewer) t (earlier_for fewer t) (later_for fewer t) in
      let same : between (measure more) t h.table ≡ between (measure fewer) t c.outset = rw (one, h.of_time) in
      let near : (outset_for more t).between ≤ between (measure more) t h.table =
      nearest (measure more) (requests_rise more) t (current_table more) (files_held more) l h.table h.among in
      rw (far, ← same) near

pub no_farther : NoFarther
no_farther = no-farther-than
