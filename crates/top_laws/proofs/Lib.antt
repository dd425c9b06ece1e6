-- What has one status, then what follows of every run.
mod OneStatusLaws
mod CycleLaws
mod OneGameLaws
mod CalcLaws
mod CauseLaws
mod GameWinLaws
mod CompleteLaws
mod UseLaws
mod StepLaws
