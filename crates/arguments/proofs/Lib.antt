mod ComponentLaws
mod Found
mod NeedLaws
mod PlanWordsLaws
mod ReadingLaws
