-- The kinds of arcs by their numbers, in the order of a row.
use Rattle.reading.specs.Basics.{ℕ}
use Rattle.firing.specs.declared.kind.Kind.{Kind}
use Rattle.firing.specs.declared.kind.Kind.TheVariants.{Take, Put, Hinder}

abbrev pub kind_number : Kind → ℕ
kind_number Take = 0
kind_number Put = 1
kind_number Hinder = 2
