mod FeedLaws
mod GatherLaws
mod PipeLaws
