-- What an open case means. Assumes nothing.
use Rattle.graph.specs.Graph.{Case, Selection, selection_of}
use Rattle.messages.specs.Message.{message_case}
use Rattle.session.specs.declared.open.OpenCase.{OpenCase}

-- the case that is open
abbrev pub case_of : OpenCase → Case
case_of o = message_case o.message.items

-- the arms that are chosen of its pairs
abbrev pub chosen_of : OpenCase → Selection
chosen_of o = selection_of (case_of o).pairs o.arms
