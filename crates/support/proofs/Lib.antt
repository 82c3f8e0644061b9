mod Counting
mod Listing
mod Copying
mod Missing
mod Passing
mod Serving
mod Choosing
