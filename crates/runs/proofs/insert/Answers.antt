use Rattle.std.proofs.Common.{arith, ◌-◌}
use Rattle.std.proofs.lemmas.List.{get_or-take, length-take-le}
use native.Mathlib.Numerals.{lt_of_le_of_ne}
use Rattle.runs.specs.internal.Terms.{term}
use Rattle.runs.proofs.Inserting.{insert_adds, insert_puts}
use Rattle.runs.proofs.insert.Goals as goal
use Rattle.runs.proofs.insert.Goals.{else-i-gt0-via-then-i-gt0+else-room-i, else-i-gt0-via-else-i-gt0}

pub returns-then-room-i-clause-is : goal.returns-then-room-i-clause-is
returns-then-room-i-clause-is c = λ below rising lt.
    let a = c.args in
    let k = c.seat-i.result in
    let long = length-take-le a.many a.room.now (omega arith) in
    insert_adds a.room.now a.many below a.added lt rising (omega arith) (k - 1) c.join.result (omega (arith, long, c.seat-i.ensures.within, c.if-i-gt0.true)) c.if-room-i.true c.join.ensures

pub returns-clause-is : goal.returns-clause-is
returns-clause-is c = λ below rising lt.
    let a = c.args in
    let k = c.seat-i.result in
    let long = length-take-le a.many a.room.now (omega arith) in
    rw c.copy_within.ensures.after
    (insert_puts a.room.now a.many below a.added lt rising (omega arith) k (omega (arith, long, c.seat-i.ensures.within))
    (λ p. elim c.else-i-gt0.branch [
      | else-i-gt0-via-then-i-gt0+else-room-i w ↦
          lt_of_le_of_ne (rw (get_or-take a.many a.room.now (k - 1) (term 0 0) (omega (arith, long, c.seat-i.ensures.within))) at (c.seat-i.ensures.before p)) w.if-room-i.false
      | else-i-gt0-via-else-i-gt0 w ↦ absurd (omega (arith, w.if-i-gt0.false))
    ])
    (λ h. rw (get_or-take a.many a.room.now k (term 0 0) h) at (c.seat-i.ensures.after k (omega arith) (omega (arith, long)))))
