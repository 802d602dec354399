-- The two-gauge file reads to the net that one would write down.
use mathlib.Core.Path.{◌≡◌, refl}
use Rattle.reading.specs.Basics.{flat_map, numbers_from, any, every, keep, find}
use Rattle.reading.specs.Reading.{accepted, failing, obey, standing, needed, repeat, file}
use Rattle.net.specs.Net.{set_of, ceiling, in_colour, in_guard, in_expression, variables_of}
use Rattle.net.specs.Reader.{width_of, read_colour, read_guard, read_expression, read_guard_if}
use Rattle.net_parts.specs.Parts.{set_part, variable_part, place_part, tokens_part}
use Rattle.net_transitions.specs.Transitions.{arc_part, transition_part}
use Rattle.net_file.specs.NetFile.{read_net}
use Rattle.net_file.specs.Examples.{two_gauges, two_gauges_net}

pub two_gauges_read : read_net two_gauges ≡ accepted two_gauges_net
unfolding flat_map numbers_from any every keep find failing obey standing needed repeat file set_of ceiling in_colour in_guard in_expression variables_of width_of read_colour read_guard read_expression set_part variable_part place_part read_guard_if arc_part transition_part tokens_part read_net
two_gauges_read = refl
