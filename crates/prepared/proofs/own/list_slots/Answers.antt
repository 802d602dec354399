use Rattle.std.proofs.Common.{◌*◌, ◌+◌, ap, sym, ◌∙◌, arith}
use Rattle.prepared.proofs.Listing.{member_below, slotting_begins, slotting_goes, slotting_passes, slotting_full, list_ends, few_entries}
use Rattle.prepared.proofs.own.list_slots.Goals as goal
use Rattle.prepared.proofs.own.list_slots.Goals.{then-k-lt4+then-has, else-k-lt4, else-k-lt4-via-then-k-lt4+else-has, else-k-lt4-via-else-k-lt4}

pub loop-v-init : goal.loop-v-init
loop-v-init c = slotting_begins _ _ _ _ _ c.told-own

pub overflow_mul-own : goal.overflow_mul-own
overflow_mul-own c = omega (arith, member_below (omega arith) (sym c.has.ensures ∙ c.if-has.true))

pub overflow_add-own : goal.overflow_add-own
overflow_add-own c = omega (arith, c.size_of.ensures.small, member_below (omega arith) (sym c.has.ensures ∙ c.if-has.true))

pub overflow_cast-own : goal.overflow_cast-own
overflow_cast-own c = omega (arith, c.size_of.ensures.small, member_below (omega arith) (sym c.has.ensures ∙ c.if-has.true))

pub loop-v-preserved : goal.loop-v-preserved
loop-v-preserved c =
    elim c.if-k-lt4.branch [
      | then-k-lt4+then-has w ↦ rw (w.own-is, w.k-is) (slotting_goes c.loop-v.invariant (sym w.has.ensures ∙ w.if-has.true) (omega arith) c.requires (ap (λ size. c.loop-v.v * 256 + size) w.size_of.ensures.is))
      | else-k-lt4 w ↦ rw (w.own-is, w.k-is) (elim w.else-k-lt4.branch [
        | else-k-lt4-via-then-k-lt4+else-has x ↦ slotting_passes c.loop-v.invariant (sym x.has.ensures ∙ x.if-has.false)
        | else-k-lt4-via-else-k-lt4 x ↦ slotting_full c.loop-v.invariant (omega arith) (omega arith)
      ])
    ]

pub returns : goal.returns
returns c = λ le.
    let here = c.loop-v.invariant in
    record {
      slots = λ stands e few zeros. list_ends (here.listed (few_entries _ stands e le few) zeros) (omega arith) le stands e;
      front = here.front;
      back = here.back;
    }
