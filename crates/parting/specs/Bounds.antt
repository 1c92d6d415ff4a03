-- Meaning: numbers of states that a mask can hold.
use Rattle.std.specs.Prelude.{◌<◌, List, All}
use Rattle.protocol.specs.Places.{Place}
use Rattle.parting.specs.declared.act.Act.{Act}
use Rattle.parting.specs.declared.edge.Edge.{Edge}

abbrev pub SmallEdge : Edge → Type 0
SmallEdge e = (e.from < 64) × (e.to < 64)

abbrev pub SmallEdges : List Edge → Type 0
SmallEdges edges = All SmallEdge edges

abbrev pub SmallAct : Act → Type 0
SmallAct a = (a.state < 64) × (a.next < 64) × (a.label < 32)

abbrev pub SmallActs : List Act → Type 0
SmallActs as' = All SmallAct as'

abbrev pub SmallPlace : Place → Type 0
SmallPlace p = (p.state < 64) × (p.branch.next < 64) × (p.branch.label < 32)

abbrev pub SmallPlaces : List Place → Type 0
SmallPlaces ps = All SmallPlace ps
