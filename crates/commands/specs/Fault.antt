-- What each refusal of a line tells.
use Rattle.std.specs.Prelude.{ℕ, List, codes}
use Rattle.std.specs.Option.{unwrap_or}
use Rattle.solver.specs.Refusals.{call_numbered}
use Rattle.commands.specs.declared.fault.Layer.{Layer}
use Rattle.commands.specs.declared.fault.Layer.TheVariants.{Text, Solver}
use Rattle.commands.specs.declared.fault.TextFault.{TextFault}
use Rattle.commands.specs.declared.fault.TextFault.TheVariants.{LongLine, Letter, Layout, Digit, Call}

-- the number of a refusal; the checks of a line come in this order, and the solver's comes last
abbrev pub fault_number : TextFault → ℕ
fault_number LongLine = 7
fault_number (Letter place) = 8
fault_number (Layout length) = 9
fault_number (Digit place) = 10
fault_number (Call refusal) = (call_numbered refusal).number

-- the place that it tells; of a call that the solver refuses, the steps left
abbrev pub fault_place : TextFault → ℕ
fault_place LongLine = 80
fault_place (Letter place) = place
fault_place (Layout length) = length
fault_place (Digit place) = place
fault_place (Call refusal) = unwrap_or (call_numbered refusal).value 0

-- the layer that refuses
abbrev pub fault_layer : TextFault → Layer
fault_layer LongLine = Text
fault_layer (Letter place) = Text
fault_layer (Layout length) = Text
fault_layer (Digit place) = Text
fault_layer (Call refusal) = Solver

-- the name of a layer
abbrev pub layer_word : Layer → List ℕ
layer_word Text = codes "text"
layer_word Solver = codes "solver"
