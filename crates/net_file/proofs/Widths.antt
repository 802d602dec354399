-- The first and the last command have in the list of commands the widths by which a file is opened and closed. Assumes nothing.
use mathlib.Core.Path.{◌≡◌, refl}
use Rattle.reading.specs.Basics.{some, any}
use Rattle.net.specs.Reader.{width_of}

pub opening_width : width_of 0x01 ≡ some 1
unfolding width_of any
opening_width = refl

pub closing_width : width_of 0x1F ≡ some 0
unfolding width_of any
closing_width = refl
