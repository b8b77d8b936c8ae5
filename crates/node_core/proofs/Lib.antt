mod OpeningLemmas
mod StepLemmas
mod RoundLemmas
mod CutLemmas
mod StartLemmas
mod RewritingLemmas
