-- The message of a railway is accepted, and means the railway's case. Assumes nothing.
use Rattle.std.proofs.Common.{◌≡◌, ℕ, true, List, ap, ◌∙◌}
use Rattle.messages.specs.Message.{message, message_case, message_fault}
use Rattle.messages.specs.Told.{passes}
use Rattle.messages.proofs.Messages.{reads_back_law}
use Rattle.trains.specs.Railway.{railway_case}
use Rattle.trains.proofs.Railways.{railway_within}
use Rattle.trains.specs.declared.train.Train.{Train}
use Rattle.trains.specs.declared.train.Step.{Step}

module _ (ts : List Train) (ss : List Step) (ms : List ℕ) (h : ms ≡ message (railway_case ts ss)) where
  pub railed_taken : passes (message_fault ms) ≡ true
  railed_taken = ap (λ (bs : List ℕ). passes (message_fault bs)) h ∙ ap passes (reads_back_law (railway_case ts ss) (railway_within ts ss)).accepted

  pub railed_case : message_case ms ≡ railway_case ts ss
  railed_case = ap message_case h ∙ (reads_back_law (railway_case ts ss) (railway_within ts ss)).same
