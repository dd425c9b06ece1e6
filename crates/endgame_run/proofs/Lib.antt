-- How the parts of a run answer, then the runs of the commands.
mod TopLaws
mod SolveLaws
mod LineLaws
mod SessionLaws
mod EngineLaws
mod CutLemmas
mod RunLaws
