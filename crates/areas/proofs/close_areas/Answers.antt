use Prim.Native.Nat.{ℕ, ◌+◌, ◌*◌, ◌≤◌}
use mathlib.Core.Path.{◌≡◌, refl, ◌∙◌}
use mathlib.Core.Bool.{Bool, true, false, cond}
use native.Mathlib.Omega.{arith}
use native.Mathlib.Nat.{mul-le-mul_right}
use Rattle.codec.proofs.PartLaws.{put-zeros}
use Rattle.model.specs.Files.{files_in, areas_bytes, staying}
use Rattle.catalogue.specs.Entries.{stays_when}
use Rattle.areas.proofs.Closing.{count_turn, area_turn, areas_closed_lem}
use Rattle.areas.proofs.close_areas.Goals as goal

-- one place on, or none
next-few : (b : Bool) {i j : ℕ} → j ≤ i → cond b (j + 1) j ≤ i + 1
next-few true h = omega arith
next-few false h = omega arith

pub loop-i-init : goal.loop-i-init
unfolding files_in staying areas_bytes
loop-i-init c = record { few = omega arith; long = refl; closed = λ going es lent says. (refl, refl) }

pub loop-i-preserved : goal.loop-i-preserved
loop-i-preserved c =
    let l = c.loop-i in
    let a = c.args in
    let more : (l.i + 1) * (8 * a.limit) ≤ a.files * (8 * a.limit) = mul-le-mul_right (8 * a.limit) (omega arith) in
    record {
      few = rw c.join_area-j.ensures.next (next-few c.stays_at.result l.invariant.few);
      long = c.join_area-j.auto.areas ∙ l.invariant.long;
      closed = λ going es lent says.
          let stays = stays_when going in
          let is = l.invariant.closed going es lent says in
          let flag = says l.i (omega arith) in (
            rw (c.join_area-j.ensures.next, c.stays_at.ensures, flag, is.0) (count_turn stays a.limit es a.areas.now l.i (omega arith)),
            rw (c.join_area-j.ensures.is, c.stays_at.ensures, flag, is.0, is.1) (area_turn stays a.limit es a.areas.now l.i (omega arith) (omega arith)),
          );
    }

pub returns : goal.returns
returns c going es lent says =
    let l = c.loop-i in
    let a = c.args in
    let stays = stays_when going in
    let size = 8 * a.limit in
    let low : l.j * size ≤ a.files * size = mul-le-mul_right size (omega arith) in
    let e : l.i ≡ a.files = omega arith in
    let is = rw e at (l.invariant.closed going es lent says) in
    put-zeros (size * l.j) (size * a.files) l.areas (omega arith) (omega arith) c.fill_zero.ensures
    ∙ rw (is.1, is.0) (areas_closed_lem stays a.limit es a.areas.now a.files lent (omega arith))
